-- The parameters of a link, in whole nanoseconds (6.3.1.2.4 Tari values, 6.3.1.2.8 preamble and frame-sync).
use Rattle.std.specs.Prelude.{ℕ, ◌*◌, ◌≤◌, Bool, if◌then◌else◌}
use Rattle.bit_strings.specs.declared.code.Code.{Code}

-- what a contract sees of a link
pub record LinkValue : Type 0 where
  pub tari : ℕ
  pub rtcal : ℕ
  pub trcal : ℕ
  pub pw : ℕ
  pub dr : Bool
  pub code : Code
  pub trext : Bool

-- 6.3.1.2.4: Tari lasts from 6.25 to 25 microseconds
abbrev pub IsTari : ℕ → Type 0
IsTari tari = (6250 ≤ tari) × (tari ≤ 25000)

-- 6.3.1.2.8: RTcal is a data-0 and a data-1, and so 2.5 to 3 Tari
abbrev pub IsRtCal : ℕ → ℕ → Type 0
IsRtCal tari rtcal = (5 * tari ≤ 2 * rtcal) × (rtcal ≤ 3 * tari)

-- 6.3.1.2.8: TRcal is 1.1 to 3 RTcal
abbrev pub IsTrCal : ℕ → ℕ → Type 0
IsTrCal rtcal trcal = (11 * rtcal ≤ 10 * trcal) × (trcal ≤ 3 * rtcal)

-- Table 6.5: PW is the larger of 2 microseconds and 0.265 Tari, to 0.525 Tari
abbrev pub IsPw : ℕ → ℕ → Type 0
IsPw tari pw = (2000 ≤ pw) × (265 * tari ≤ 1000 * pw) × (1000 * pw ≤ 525 * tari)

-- each parameter is in its range
pub record IsLegalLink (link : LinkValue) : Type 0 where
  pub tari_range : IsTari link.tari
  pub rtcal_range : IsRtCal link.tari link.rtcal
  pub trcal_range : IsTrCal link.rtcal link.trcal
  pub pw_range : IsPw link.tari link.pw

-- 6.3.1.2.8: the backscatter link frequency is the divide ratio over TRcal: 8 for the DR bit 0, 64/3 for 1
abbrev pub blf_of : LinkValue → ℕ × ℕ
blf_of link = if link.dr then (64, 3 * link.trcal) else (8, link.trcal)
