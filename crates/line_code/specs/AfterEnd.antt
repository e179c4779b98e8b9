-- What the end of the levels gives behind the lead (profile).
use Rattle.std.specs.Prelude.{◌≡◌, Bool, List, ◌++◌, Result, Ok, Err}
use Rattle.line_code.specs.Table.{Table}
use Rattle.line_code.specs.Stream.{Streams}
use Rattle.line_code.specs.States.{Buffer, EndedValue, Ends}
use Rattle.line_code.specs.Refusal.{RefusesStream}
use Rattle.line_code.specs.declared.refusal.LineRefusal.{LineRefusal}

-- the answer at the end, by the levels and by the buffer before it and behind it: the levels are a stream, and
-- the buffer ends with its bits, without the dummy; or they are none, and the buffer is as before
abbrev pub AfterEnd : Table → Bool → List Bool → Buffer → Result EndedValue LineRefusal → Type 0
AfterEnd t trext levels buffer (Ok state) =
    (bits : List Bool) × Ends t trext state levels bits × (buffer.new ≡ buffer.stood ++ bits)
AfterEnd t trext levels buffer (Err refusal) = RefusesStream (Streams t trext) levels refusal × (buffer.new ≡ buffer.old)
