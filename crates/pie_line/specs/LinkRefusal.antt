-- Profile: which parameter of a link is refused.
use Rattle.std.specs.Prelude.{ℕ}
use Rattle.pie_line.specs.declared.link.LinkRefusal.{LinkRefusal}
use Rattle.pie_line.specs.declared.link.LinkRefusal.TheVariants.{Tari, RtCal, TrCal, Pw}
use Rattle.pie_line.specs.Link.{IsTari, IsRtCal, IsTrCal, IsPw}

-- the range that is broken, where those before it are kept: Tari, RTcal, TRcal and PW, in this order
abbrev pub IsFirstBroken : LinkRefusal → ℕ → ℕ → ℕ → ℕ → Type 0
IsFirstBroken Tari tari rtcal trcal pw = ¬ IsTari tari
IsFirstBroken RtCal tari rtcal trcal pw = IsTari tari × (¬ IsRtCal tari rtcal)
IsFirstBroken TrCal tari rtcal trcal pw = IsTari tari × IsRtCal tari rtcal × (¬ IsTrCal rtcal trcal)
IsFirstBroken Pw tari rtcal trcal pw = IsTari tari × IsRtCal tari rtcal × IsTrCal rtcal trcal × (¬ IsPw tari pw)
