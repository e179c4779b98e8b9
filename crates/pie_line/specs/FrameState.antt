-- What a decoder knows of a frame at each place in it, and what may follow there (profile).
use Rattle.std.specs.Prelude.{◌≡◌, ℕ, ◌*◌, ◌≤◌, ◌<◌, Bool, List, ◌∷◌, ◌++◌, Option}
use Rattle.std.specs.Option.{option_to_list}
use Rattle.pie_line.specs.declared.frame.FrameKind.{FrameKind}
use Rattle.pie_line.specs.declared.frame.FrameKind.TheVariants.{Preamble, FrameSync}
use Rattle.pie_line.specs.declared.frame_state.FrameState.{FrameState}
use Rattle.pie_line.specs.declared.frame_state.FrameState.TheVariants.{Delimiter, TariHigh, TariLow, RtCalHigh, RtCalLow, FirstHigh, FirstLow, High, Low}
use Rattle.pie_line.specs.Link.{IsTari, IsRtCal, IsTrCal}
use Rattle.pie_line.specs.Pie.{ArePairs, pair_sums, AreSymbols, HasSums, IsFrame}

-- the RTcal of the header that was read
abbrev pub rtcal_of : FrameKind → ℕ
rtcal_of (FrameSync tari rtcal) = rtcal
rtcal_of (Preamble tari rtcal trcal) = rtcal

-- the header that was read is in its ranges
abbrev pub IsHeader : FrameKind → Type 0
IsHeader (FrameSync tari rtcal) = IsTari tari × IsRtCal tari rtcal
IsHeader (Preamble tari rtcal trcal) = IsTari tari × IsRtCal tari rtcal × IsTrCal rtcal trcal

-- a high that leaves its low at least one nanosecond in a pair that lasts at most this long
pub record IsHigh (high most : ℕ) : Type 0 where
  pub lasts : 1 ≤ high
  pub room : high < most

-- what was read so far is in its ranges
abbrev pub IsSoundState : FrameState → Type 0
IsSoundState Delimiter = Unit {0}
IsSoundState TariHigh = Unit {0}
IsSoundState (TariLow high) = IsHigh high 25000
IsSoundState (RtCalHigh tari) = IsTari tari
IsSoundState (RtCalLow tari high) = IsTari tari × IsHigh high (3 * tari)
IsSoundState (FirstHigh tari rtcal) = IsTari tari × IsRtCal tari rtcal
IsSoundState (FirstLow tari rtcal high) = IsTari tari × IsRtCal tari rtcal × IsHigh high (3 * rtcal)
IsSoundState (High kind) = IsHeader kind
IsSoundState (Low kind high) = IsHeader kind × IsHigh high (4 * rtcal_of kind)

-- these intervals, read from the place on, complete a frame of this kind, and read from there are these bits
abbrev pub Completes : FrameState → FrameKind → List Bool → List ℕ → Type 0
Completes Delimiter kind bits rest = IsFrame kind bits rest
Completes TariHigh kind bits rest = ArePairs rest × HasSums kind bits (pair_sums rest)
Completes (TariLow high) kind bits rest = ArePairs (high ∷ rest) × HasSums kind bits (pair_sums (high ∷ rest))
Completes (RtCalHigh tari) kind bits rest = ArePairs rest × HasSums kind bits (tari ∷ pair_sums rest)
Completes (RtCalLow tari high) kind bits rest = ArePairs (high ∷ rest) × HasSums kind bits (tari ∷ pair_sums (high ∷ rest))
Completes (FirstHigh tari rtcal) kind bits rest = ArePairs rest × HasSums kind bits (tari ∷ rtcal ∷ pair_sums rest)
Completes (FirstLow tari rtcal high) kind bits rest = ArePairs (high ∷ rest) × HasSums kind bits (tari ∷ rtcal ∷ pair_sums (high ∷ rest))
Completes (High header) kind bits rest = (kind ≡ header) × ArePairs rest × AreSymbols (rtcal_of header) bits (pair_sums rest)
Completes (Low header high) kind bits rest = (kind ≡ header) × ArePairs (high ∷ rest) × AreSymbols (rtcal_of header) bits (pair_sums (high ∷ rest))

-- with one more interval, which may have ended the symbol of a bit, the decoder comes to the next place:
-- what completes a frame from the one place on is the interval and what completes it from the other on
pub record Moves (place : FrameState) (interval : ℕ) (next : FrameState) (bit : Option Bool) : Type 0 where
  pub sound : IsSoundState next
  pub only : (kind : FrameKind) (bits : List Bool) (rest : List ℕ) → Completes place kind bits (interval ∷ rest) →
      (more : List Bool) × (bits ≡ option_to_list bit ++ more) × Completes next kind more rest
  pub back : (kind : FrameKind) (more : List Bool) (rest : List ℕ) → Completes next kind more rest →
      Completes place kind (option_to_list bit ++ more) (interval ∷ rest)

-- no frame goes on with this interval
pub record Stops (place : FrameState) (interval : ℕ) : Type 0 where
  pub never : (kind : FrameKind) (bits : List Bool) (rest : List ℕ) → ¬ Completes place kind bits (interval ∷ rest)
