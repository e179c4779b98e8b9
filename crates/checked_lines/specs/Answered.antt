-- What is known of an input of which some lines are answered (profile).
use Rattle.std.specs.Prelude.{◌≡◌, ℕ, ◌+◌, All, List, ◌++◌, length}
use Rattle.std.specs.List.{AllZip, flat_map}
use Rattle.text_fields.specs.Lines.{Lacks, line_feed, text_with}
use Rattle.checked_lines.specs.LineRules.{LineRules}

-- by these line rules, the new text of answers is the old one with the line of an answer to this request at its end
pub record AddsLine {R A : Type 0} (rules : LineRules R A) (request : R) (old new : List ℕ) : Type 0 where
  pub answer : A
  pub right : rules.answers request answer
  pub line : new ≡ old ++ rules.line_of answer

-- by these line rules, the new text of answers is the old one with the line of an answer to what this line asks for at its end
pub record AddsLineFor {R A : Type 0} (rules : LineRules R A) (line old new : List ℕ) : Type 0 where
  pub request : R
  pub asks : rules.asks line request
  pub adds : AddsLine rules request old new

-- the input is lines and what stands behind them; each of the lines asks for something, and the next line has this number
pub record AsksTo {R A : Type 0} (rules : LineRules R A) (input rest : List ℕ) (number : ℕ) : Type 0 where
  pub before : List (List ℕ)
  pub asked : List R
  pub cut : input ≡ text_with before ++ rest
  pub whole : All (Lacks line_feed) before
  pub spelled : AllZip rules.asks before asked
  pub count : number ≡ length before + 1

-- the input is lines that ask for something and what stands behind them, and the text is the answers to these lines
pub record AnswersTo {R A : Type 0} (rules : LineRules R A) (input rest text : List ℕ) (number : ℕ) : Type 0 where
  pub asks : AsksTo rules input rest number
  pub answers : List A
  pub right : AllZip rules.answers asks.asked answers
  pub lines : text ≡ flat_map rules.line_of answers
