-- From each place some intervals complete a frame.
use Rattle.std.proofs.Common.{ℕ, ◌+◌, ◌-◌, ◌*◌, ◌≤◌, Bool, List, [], ◌∷◌, refl, arith}
use Rattle.std.proofs.lemmas.List.Elements.{All-nil}
use Rattle.pie_line.specs.declared.frame.FrameKind.{FrameKind}
use Rattle.pie_line.specs.declared.frame.FrameKind.TheVariants.{Preamble, FrameSync}
use Rattle.pie_line.specs.declared.frame_state.FrameState.{FrameState}
use Rattle.pie_line.specs.declared.frame_state.FrameState.TheVariants.{Delimiter, TariHigh, TariLow, RtCalHigh, RtCalLow, FirstHigh, FirstLow, High, Low}
use Rattle.pie_line.specs.Link.{IsTari, IsRtCal, IsTrCal}
use Rattle.pie_line.specs.Pie.{bit_of_symbol, AreSymbols, HasSums}
use Rattle.pie_line.specs.FrameState.{IsSoundState, Completes, rtcal_of}
use Rattle.pie_line.proofs.Symbols.{symbols-more}

pub no_symbols : (r : ℕ) → AreSymbols r [] []
no_symbols r = record { within = All-nil (λ x. x ≤ 4 * r); told = refl }

-- a frame-sync without data
pub sync : (t r : ℕ) → IsTari t → IsRtCal t r → HasSums (FrameSync t r) [] (t ∷ r ∷ [])
sync t r it ir = record {
  tari_is = refl;
  rtcal_is = refl;
  tari_range = it;
  rtcal_range = ir;
  no_trcal = tt;
  symbols = no_symbols r;
}

-- a preamble without data
preamble : (t r c : ℕ) → IsTari t → IsRtCal t r → IsTrCal r c → HasSums (Preamble t r c) [] (t ∷ r ∷ c ∷ [])
preamble t r c it ir ic = record {
  tari_is = refl;
  rtcal_is = refl;
  trcal_is = refl;
  tari_range = it;
  rtcal_range = ir;
  trcal_range = ic;
  symbols = no_symbols r;
}

pub completion : (place : FrameState) → IsSoundState place → (kind : FrameKind) × (bits : List Bool) × (rest : List ℕ) × Completes place kind bits rest
completion Delimiter s = (
  FrameSync 25000 75000,
  [],
  12500 ∷ 1 ∷ 24999 ∷ 1 ∷ 74999 ∷ [],
  ((omega arith, omega arith), (omega arith, omega arith, (omega arith, omega arith, tt)), sync 25000 75000 (omega arith, omega arith) (omega arith, omega arith)),
)
completion TariHigh s = (
  FrameSync 25000 75000,
  [],
  1 ∷ 24999 ∷ 1 ∷ 74999 ∷ [],
  ((omega arith, omega arith, (omega arith, omega arith, tt)), sync 25000 75000 (omega arith, omega arith) (omega arith, omega arith)),
)
completion (TariLow high) s =
    let t = high + (25000 - high) in (
      FrameSync t 75000,
      [],
      (25000 - high) ∷ 1 ∷ 74999 ∷ [],
      ((s.lasts, omega (arith, s.room), (omega arith, omega arith, tt)), sync t 75000 (omega (arith, s.room), omega (arith, s.room)) (omega (arith, s.room), omega (arith, s.room))),
    )
completion (RtCalHigh t) s =
    let r = 1 + (3 * t - 1) in (
      FrameSync t r,
      [],
      1 ∷ (3 * t - 1) ∷ [],
      ((omega arith, omega (arith, s.0), tt), sync t r s (omega (arith, s.0), omega (arith, s.0))),
    )
completion (RtCalLow t high) s =
    let r = high + (3 * t - high) in (
      FrameSync t r,
      [],
      (3 * t - high) ∷ [],
      ((s.1.lasts, omega (arith, s.1.room), tt), sync t r s.0 (omega (arith, s.0, s.1.room), omega (arith, s.0, s.1.room))),
    )
completion (FirstHigh t r) s = (FrameSync t r, [], [], (tt, sync t r s.0 s.1))
completion (FirstLow t r high) s =
    let c = high + (3 * r - high) in (
      Preamble t r c,
      [],
      (3 * r - high) ∷ [],
      ((s.2.lasts, omega (arith, s.2.room), tt), preamble t r c s.0 s.1 (omega (arith, s.2.room), omega (arith, s.2.room))),
    )
completion (High kind) s = (kind, [], [], (refl, tt, no_symbols (rtcal_of kind)))
completion (Low kind high) s =
    let r = rtcal_of kind in
    let sum = high + (4 * r - high) in (
      kind,
      bit_of_symbol r sum ∷ [],
      (4 * r - high) ∷ [],
      (refl, (s.1.lasts, omega (arith, s.1.room), tt), symbols-more r sum [] [] (omega (arith, s.1.room)) (no_symbols r)),
    )
