-- Profile: a dump that is drawn: the link of the run, and where the dump stands.
use Rattle.pie_line.specs.Link.{LinkValue}
use Rattle.wave_dump.specs.Waves.{DumpValue}

pub record DrawingValue : Type 0 where
  pub link : LinkValue
  pub dump : DumpValue
