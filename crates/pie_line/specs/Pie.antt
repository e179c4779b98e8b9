-- Frames in pulse-interval encoding, from interrogator to tag, as lists of intervals in whole nanoseconds
-- (6.3.1.2.3 data encoding, 6.3.1.2.8 preamble and frame-sync).
use Rattle.std.specs.Prelude.{◌≡◌, ℕ, ◌+◌, ◌-◌, ◌*◌, ◌≤◌, Bool, nat_le, List, [], ◌∷◌, ◌++◌, map, All, if◌then◌else◌}
use Rattle.std.specs.List.{flat_map}
use Rattle.pie_line.specs.declared.frame.FrameKind.{FrameKind}
use Rattle.pie_line.specs.declared.frame.FrameKind.TheVariants.{Preamble, FrameSync}
use Rattle.pie_line.specs.declared.frame.Lead.{Lead}
use Rattle.pie_line.specs.declared.frame.Lead.TheVariants.{Preamble as preamble, FrameSync as frame_sync}
use Rattle.pie_line.specs.Link.{LinkValue, IsTari, IsRtCal, IsTrCal}

-- the longest interval that a frame may have, in nanoseconds
abbrev pub longest_interval : ℕ
longest_interval = 999999

-- 6.3.1.2.8: the delimiter lasts 12.5 microseconds, give or take 5 percent
abbrev pub IsDelimiter : ℕ → Type 0
IsDelimiter interval = (11875 ≤ interval) × (interval ≤ 13125)

-- 6.3.1.2.3: the intervals are pairs of a high and a low, and each of them lasts
abbrev pub ArePairs : List ℕ → Type 0
ArePairs [] = Unit {0}
ArePairs (high ∷ []) = ⊥
ArePairs (high ∷ low ∷ rest) = (1 ≤ high) × (1 ≤ low) × ArePairs rest

-- how long each pair lasts
abbrev pub pair_sums : List ℕ → List ℕ
pair_sums [] = []
pair_sums (high ∷ []) = []
pair_sums (high ∷ low ∷ rest) = (high + low) ∷ pair_sums rest

-- 6.3.1.2.8: the pivot is half of RTcal; a shorter symbol is a data-0, and another a data-1
abbrev pub bit_of_symbol : ℕ → ℕ → Bool
bit_of_symbol rtcal sum = nat_le rtcal (2 * sum)

-- 6.3.1.2.8: the symbols of these bits, none of them longer than 4 RTcal
pub record AreSymbols (rtcal : ℕ) (bits : List Bool) (sums : List ℕ) : Type 0 where
  pub within : All (λ sum. sum ≤ 4 * rtcal) sums
  pub told : bits ≡ map (bit_of_symbol rtcal) sums

-- 6.3.1.2.8: what follows RTcal in a frame-sync is no longer than RTcal, and so is no TRcal
abbrev pub IsNoTrCal : ℕ → List ℕ → Type 0
IsNoTrCal rtcal [] = Unit {0}
IsNoTrCal rtcal (sum ∷ sums) = sum ≤ rtcal

-- 6.3.1.2.8: a frame-sync whose first two pairs last t and r, and then pairs that last these sums
pub record IsFrameSync (tari rtcal t r : ℕ) (bits : List Bool) (sums : List ℕ) : Type 0 where
  pub tari_is : t ≡ tari
  pub rtcal_is : r ≡ rtcal
  pub tari_range : IsTari t
  pub rtcal_range : IsRtCal t r
  pub no_trcal : IsNoTrCal r sums
  pub symbols : AreSymbols r bits sums

-- 6.3.1.2.8: a preamble whose first three pairs last t, r and c, and then pairs that last these sums
pub record IsPreamble (tari rtcal trcal t r c : ℕ) (bits : List Bool) (sums : List ℕ) : Type 0 where
  pub tari_is : t ≡ tari
  pub rtcal_is : r ≡ rtcal
  pub trcal_is : c ≡ trcal
  pub tari_range : IsTari t
  pub rtcal_range : IsRtCal t r
  pub trcal_range : IsTrCal r c
  pub symbols : AreSymbols r bits sums

-- pairs that last these sums make a header of this kind, and the symbols of the bits
abbrev pub HasSums : FrameKind → List Bool → List ℕ → Type 0
HasSums (FrameSync tari rtcal) bits (t ∷ r ∷ sums) = IsFrameSync tari rtcal t r bits sums
HasSums (Preamble tari rtcal trcal) bits (t ∷ r ∷ c ∷ sums) = IsPreamble tari rtcal trcal t r c bits sums
HasSums kind bits sums = ⊥

-- the intervals are a frame of this kind and these bits: the delimiter, the header and the symbols
abbrev pub IsFrame : FrameKind → List Bool → List ℕ → Type 0
IsFrame kind bits [] = ⊥
IsFrame kind bits (delimiter ∷ pairs) = IsDelimiter delimiter × ArePairs pairs × HasSums kind bits (pair_sums pairs)

-- the family of the frames
abbrev pub Frames : List ℕ → Type 0
Frames intervals = (kind : FrameKind) × (bits : List Bool) × IsFrame kind bits intervals

-- 6.3.1.2.3: a pair that lasts this long: a high, and then a low of PW
abbrev pub interval_pair : LinkValue → ℕ → List ℕ
interval_pair link sum = (sum - link.pw) ∷ link.pw ∷ []

-- 6.3.1.2.3: a data-0 lasts Tari, and a data-1 the rest of RTcal
abbrev pub sum_of : LinkValue → Bool → ℕ
sum_of link bit = if bit then link.rtcal - link.tari else link.tari

-- 6.3.1.2.3: the symbols of these bits, of which a data-0 and a data-1 have these highs, and each this low
abbrev pub symbols_with : ℕ → ℕ → ℕ → List Bool → List ℕ
symbols_with high_0 high_1 low bits = flat_map (λ bit. (if bit then high_1 else high_0) ∷ low ∷ []) bits

-- 6.3.1.2.8: the header that begins a Query, and the one that begins every other command
abbrev pub header_of : LinkValue → Lead → List ℕ
header_of link frame_sync = interval_pair link link.tari ++ interval_pair link link.rtcal
header_of link preamble = interval_pair link link.tari ++ interval_pair link link.rtcal ++ interval_pair link link.trcal

-- the one frame that is written for these bits
abbrev pub wave_of : LinkValue → Lead → List Bool → List ℕ
wave_of link lead bits = 12500 ∷ (header_of link lead ++ flat_map (λ bit. interval_pair link (sum_of link bit)) bits)

-- the kind that such a frame has
abbrev pub frame_kind_of : LinkValue → Lead → FrameKind
frame_kind_of link frame_sync = FrameSync link.tari link.rtcal
frame_kind_of link preamble = Preamble link.tari link.rtcal link.trcal

-- 6.3.1.2.8: a frame of this kind begins so
abbrev pub FrameBeginsWith : FrameKind → Lead → Type 0
FrameBeginsWith (Preamble tari rtcal trcal) preamble = Unit {0}
FrameBeginsWith (FrameSync tari rtcal) frame_sync = Unit {0}
FrameBeginsWith kind lead = ⊥
