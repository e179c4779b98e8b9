-- What a decoder may answer to a list of levels (profile).
use Rattle.std.specs.Prelude.{Bool, List, Result, Ok, Err}
use Rattle.line_code.specs.Table.{Table}
use Rattle.line_code.specs.Stream.{Streams}
use Rattle.line_code.specs.Refusal.{RefusesStream}
use Rattle.line_code.specs.declared.refusal.LineRefusal.{LineRefusal}

-- the levels are a stream, or they are refused so
abbrev pub IsStreamAnswer : Table → Bool → List Bool → Result (Unit {0}) LineRefusal → Type 0
IsStreamAnswer t trext levels (Ok done) = Streams t trext levels
IsStreamAnswer t trext levels (Err refusal) = RefusesStream (Streams t trext) levels refusal
