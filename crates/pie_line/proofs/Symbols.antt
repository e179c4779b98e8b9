-- One symbol more or less at the front of the data.
use Rattle.std.proofs.Common.{◌≡◌, ℕ, ◌+◌, ◌*◌, ◌≤◌, Bool, Some, None, List, ◌∷◌, map, refl, sym, subst, arith}
use Rattle.std.proofs.lemmas.List.Elements.{All-cons, All-tail}
use Rattle.pie_line.specs.declared.frame.FrameKind.{FrameKind}
use Rattle.pie_line.specs.declared.frame.FrameKind.TheVariants.{Preamble, FrameSync}
use Rattle.pie_line.specs.declared.frame_state.FrameState.TheVariants.{FirstLow, High, Low}
use Rattle.pie_line.specs.Link.{IsTari, IsRtCal, IsTrCal}
use Rattle.pie_line.specs.Pie.{pair_sums, bit_of_symbol, AreSymbols, HasSums}
use Rattle.pie_line.specs.FrameState.{IsHeader, rtcal_of, Moves}

pub symbols-rest : (r sum : ℕ) (bits : List Bool) (sums : List ℕ) → AreSymbols r bits (sum ∷ sums) →
    (more : List Bool) × (bits ≡ bit_of_symbol r sum ∷ more) × AreSymbols r more sums
symbols-rest r sum bits sums s =
    (map (bit_of_symbol r) sums, s.told, record { within = All-tail (λ x. x ≤ 4 * r) sum sums s.within; told = refl })

pub symbols-more : (r sum : ℕ) (more : List Bool) (sums : List ℕ) → sum ≤ 4 * r → AreSymbols r more sums →
    AreSymbols r (bit_of_symbol r sum ∷ more) (sum ∷ sums)
symbols-more r sum more sums le s =
    record { within = All-cons (λ x. x ≤ 4 * r) sum sums le s.within; told = rw s.told refl }

-- the low of a data symbol
pub symbol-moves : (kind : FrameKind) (high low : ℕ) → IsHeader kind → 1 ≤ high → 1 ≤ low → high + low ≤ 4 * rtcal_of kind →
    Moves (Low kind high) low (High kind) (Some (bit_of_symbol (rtcal_of kind) (high + low)))
symbol-moves header high low h h1 l1 le = record {
  sound = h;
  only = λ kind bits rest c. let s = symbols-rest (rtcal_of header) (high + low) bits (pair_sums rest) c.2 in
      (s.0, s.1, (c.0, c.1.2, s.2));
  back = λ kind more rest c. (c.0, (h1, l1, c.1), symbols-more (rtcal_of header) (high + low) more (pair_sums rest) le c.2);
}

-- the first pair after RTcal, where it is no longer than RTcal: the frame has a frame-sync
pub first-reads : (t r sum : ℕ) → IsHeader (FrameSync t r) → sum ≤ r → (kind : FrameKind) (bits : List Bool) (sums : List ℕ) →
    HasSums kind bits (t ∷ r ∷ sum ∷ sums) → (kind ≡ FrameSync t r) × AreSymbols r bits (sum ∷ sums)
first-reads t r sum header le (FrameSync tari rtcal) bits sums f =
    (rw (f.tari_is, f.rtcal_is) refl, f.symbols)
first-reads t r sum header le (Preamble tari rtcal trcal) bits sums f =
    absurd (omega (arith, f.trcal_range, header.0, header.1))

pub first-symbol : (t r sum : ℕ) → IsHeader (FrameSync t r) → sum ≤ r → (more : List Bool) (sums : List ℕ) → AreSymbols r more sums →
    HasSums (FrameSync t r) (bit_of_symbol r sum ∷ more) (t ∷ r ∷ sum ∷ sums)
first-symbol t r sum header le more sums s = record {
  tari_is = refl;
  rtcal_is = refl;
  tari_range = header.0;
  rtcal_range = header.1;
  no_trcal = le;
  symbols = symbols-more r sum more sums (omega arith) s;
}

pub first-moves : (t r high low : ℕ) → IsTari t → IsRtCal t r → 1 ≤ high → 1 ≤ low → high + low ≤ r →
    Moves (FirstLow t r high) low (High (FrameSync t r)) (Some (bit_of_symbol r (high + low)))
first-moves t r high low it ir h1 l1 le = record {
  sound = (it, ir);
  only = λ kind bits rest c. let f = first-reads t r (high + low) (it, ir) le kind bits (pair_sums rest) c.1 in
      let s = symbols-rest r (high + low) bits (pair_sums rest) f.1 in
      (s.0, s.1, (f.0, c.0.2, s.2));
  back = λ kind more rest c.
      let read = first-symbol t r (high + low) (it, ir) le more (pair_sums rest) c.2 in
      ((h1, l1, c.1), subst (λ k. HasSums k (bit_of_symbol r (high + low) ∷ more) (t ∷ r ∷ (high + low) ∷ pair_sums rest)) (sym c.0) read);
}

-- the first pair after RTcal, where it is TRcal: the frame has a preamble
preamble-reads : (t r c : ℕ) → IsHeader (Preamble t r c) → (kind : FrameKind) (bits : List Bool) (sums : List ℕ) →
    HasSums kind bits (t ∷ r ∷ c ∷ sums) → (kind ≡ Preamble t r c) × AreSymbols r bits sums
preamble-reads t r c header (FrameSync tari rtcal) bits sums f =
    absurd (omega (arith, f.no_trcal, header.0, header.1, header.2))
preamble-reads t r c header (Preamble tari rtcal trcal) bits sums f =
    (rw (f.tari_is, f.rtcal_is, f.trcal_is) refl, f.symbols)

preamble-more : (t r c : ℕ) → IsHeader (Preamble t r c) → (bits : List Bool) (sums : List ℕ) → AreSymbols r bits sums →
    HasSums (Preamble t r c) bits (t ∷ r ∷ c ∷ sums)
preamble-more t r c header bits sums s = record {
  tari_is = refl;
  rtcal_is = refl;
  trcal_is = refl;
  tari_range = header.0;
  rtcal_range = header.1;
  trcal_range = header.2;
  symbols = s;
}

pub preamble-moves : (t r high low : ℕ) → IsTari t → IsRtCal t r → 1 ≤ high → 1 ≤ low → IsTrCal r (high + low) →
    Moves (FirstLow t r high) low (High (Preamble t r (high + low))) None
preamble-moves t r high low it ir h1 l1 ic = record {
  sound = (it, ir, ic);
  only = λ kind bits rest c. let f = preamble-reads t r (high + low) (it, ir, ic) kind bits (pair_sums rest) c.1 in
      (bits, refl, (f.0, c.0.2, f.1));
  back = λ kind more rest c.
      let read = preamble-more t r (high + low) (it, ir, ic) more (pair_sums rest) c.2 in
      ((h1, l1, c.1), subst (λ k. HasSums k more (t ∷ r ∷ (high + low) ∷ pair_sums rest)) (sym c.0) read);
}
