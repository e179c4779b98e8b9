-- What is known of an input that comes in pieces, and what is answered when it ended (profile).
use Rattle.std.specs.Prelude.{ℕ, List, ◌++◌, Option, Some, None}
use Rattle.text_fields.specs.Lines.{Lacks, line_feed}
use Rattle.checked_lines.specs.Answered.{AnswersTo}
use Rattle.checked_lines.specs.declared.fault.FaultyLine.{FaultyLine}
use Rattle.decode_lines.specs.Answer.{decode_rules}
use Rattle.decode_lines.specs.DecodeLines.{IsFirstDecodeFault}

-- the lines so far are answered, and the part of a line stands behind them; or one of them is the first faulty line, whatever
-- comes behind them
abbrev pub AnsweredSoFar : Option FaultyLine → (input part text : List ℕ) → (number : ℕ) → Type 0
AnsweredSoFar None input part text number = AnswersTo decode_rules input part text number × Lacks line_feed part
AnsweredSoFar (Some fault) input part text number = (more : List ℕ) → IsFirstDecodeFault (input ++ more) fault
