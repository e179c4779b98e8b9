-- Profile: what `names` writes for the bytes that it read. The whole input is checked before a line is written.
use Rattle.std.specs.Prelude.{◌≡◌, ◌≢◌, ℕ, ◌+◌, true, List, [], ◌∷◌, ◌++◌, length}
use Rattle.text_fields.specs.FaultLine.{fault_line}
use Rattle.text_fields.specs.Lines.{lines_of}
use Rattle.report_lines.specs.Names.{AreWithNames}
use Rattle.checked_lines.specs.FaultWords.{reason_word}
use Rattle.checked_lines.specs.declared.fault.FaultReason.TheVariants.{End}
use Rattle.top_call.specs.Job.{Job}

-- the bytes are these lines, and nothing stands behind the last line feed
abbrev pub AreLines : List ℕ → List (List ℕ) → Type 0
AreLines bytes lines = lines_of bytes ≡ lines ++ [] ∷ []

-- each line of the bytes has its line feed
abbrev pub IsOfLines : List ℕ → Type 0
IsOfLines bytes = (lines : List (List ℕ)) × AreLines bytes lines

-- the text is the lines of the bytes, each with its name behind it, where it has one
pub record AddsNames (bytes text : List ℕ) : Type 0 where
  pub lines : List (List ℕ)
  pub cut : AreLines bytes lines
  pub names : AreWithNames lines text

-- the last line of the bytes has no line feed, and this is its number, counted from 1
pub record IsCutAt (bytes : List ℕ) (number : ℕ) : Type 0 where
  pub before : List (List ℕ)
  pub last : List ℕ
  pub cut : lines_of bytes ≡ before ++ last ∷ []
  pub filled : last ≢ []
  pub count : number ≡ length before + 1

-- what `names` writes where the last line has no line feed: the fault line of that
pub record RefusesCutLine (bytes text : List ℕ) : Type 0 where
  pub number : ℕ
  pub at : IsCutAt bytes number
  pub line : text ≡ fault_line number (reason_word End)

-- the lines of the bytes with their names
abbrev pub names_job : Job
names_job = record {
  input = true;
  allows = IsOfLines;
  writes = AddsNames;
  refuses = RefusesCutLine;
  promises = λ bytes text. Unit {0};
}
