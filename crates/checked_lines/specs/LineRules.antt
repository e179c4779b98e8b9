-- Profile: texts of which each line asks for something and is answered by a line: the answers to all of them, or the first
-- faulty line.
use Rattle.std.specs.Prelude.{◌≡◌, ℕ, List, [], ◌∷◌, ◌++◌}
use Rattle.std.specs.List.{AllZip, flat_map}
use Rattle.text_fields.specs.Lines.{lines_of, fields_of}
use Rattle.checked_lines.specs.declared.fault.FaultReason.{FaultReason}
use Rattle.checked_lines.specs.declared.fault.FaultReason.TheVariants.{End}
use Rattle.checked_lines.specs.declared.fault.FaultyLine.{FaultyLine}
use Rattle.checked_lines.specs.TextRules.{TextRules, IsFaultText, IsFirstFault}

-- What is said of one line, where R is what lines ask for and A what is answered.
pub record LineRules (R A : Type 0) : Type 1 where
  -- the line, which is given without its line feed, asks for this request
  pub asks : List ℕ → R → Type 0
  -- by these line rules, the first reason for which the fields of a line that has its line feed ask for nothing
  pub is_faulty : List (List ℕ) → FaultReason → Type 0
  -- by these line rules, the answer is one to the request
  pub answers : R → A → Type 0
  -- the answer to a request as a line of the text of answers, with its line feed
  pub line_of : A → List ℕ

-- the bytes are lines that ask for these requests, in order, and nothing stands behind the last line feed
pub record AskFor {R A : Type 0} (rules : LineRules R A) (bytes : List ℕ) (requests : List R) : Type 0 where
  pub lines : List (List ℕ)
  pub cut : lines_of bytes ≡ lines ++ [] ∷ []
  pub each : AllZip rules.asks lines requests

-- each line of the bytes asks for something by these line rules, and nothing stands behind the last line feed
abbrev pub AskForSome : {R A : Type 0} → LineRules R A → List ℕ → Type 0
AskForSome {R} rules bytes = (requests : List R) × AskFor rules bytes requests

-- the text is the answers to the requests, each on a line of its own, in order
pub record AreAnswers {R A : Type 0} (rules : LineRules R A) (requests : List R) (text : List ℕ) : Type 0 where
  pub answers : List A
  pub each : AllZip rules.answers requests answers
  pub lines : text ≡ flat_map rules.line_of answers

-- the text is the answers to the lines of the bytes
pub record Answers {R A : Type 0} (rules : LineRules R A) (bytes text : List ℕ) : Type 0 where
  pub requests : List R
  pub asks : AskFor rules bytes requests
  pub answers : AreAnswers rules requests text

-- Such a text stands behind each line as before the first: whatever was asked for, the next line asks for something or is faulty.
abbrev pub text_rules : {R A : Type 0} → LineRules R A → TextRules (Unit {0}) FaultReason
text_rules {R} rules = record {
  start = tt;
  leads = λ before line behind. (request : R) × rules.asks line request;
  is_faulty = λ before line reason. rules.is_faulty (fields_of line) reason;
  may_end = λ behind. Unit {0};
  unended = λ before. End;
}

-- the first line of the bytes, counted from 1, that is faulty by these line rules, with its first reason
abbrev pub IsFirstFaultyLine : {R A : Type 0} → LineRules R A → List ℕ → FaultyLine → Type 0
IsFirstFaultyLine rules bytes fault = IsFirstFault (text_rules rules) bytes fault.line fault.reason

-- the text is the fault line of the bytes by these line rules
abbrev pub IsFaultyLineText : {R A : Type 0} → LineRules R A → (bytes text : List ℕ) → Type 0
IsFaultyLineText rules bytes text = IsFaultText (text_rules rules) bytes text
