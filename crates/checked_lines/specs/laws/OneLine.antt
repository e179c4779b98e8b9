-- What has to hold of one line, so that a text of lines is answered in one way.
use Rattle.std.specs.Prelude.{◌≡◌, ◌⊎◌, ℕ, List}
use Rattle.text_fields.specs.Lines.{fields_of}
use Rattle.checked_lines.specs.LineRules.{LineRules}
use Rattle.checked_lines.specs.declared.fault.FaultReason.{FaultReason}

-- a line asks for one thing at most, or is faulty for one reason at most, and not both
pub record TellLines {R A : Type 0} (rules : LineRules R A) : Type 0 where
  pub one_request : (line : List ℕ) (one other : R) → rules.asks line one → rules.asks line other → one ≡ other
  pub one_reason : (fields : List (List ℕ)) (one other : FaultReason) → rules.is_faulty fields one → rules.is_faulty fields other → one ≡ other
  pub not_faulty : (line : List ℕ) (request : R) (reason : FaultReason) → rules.asks line request → rules.is_faulty (fields_of line) reason → ⊥

-- what a line asks for has one answer at most
abbrev pub HaveOneAnswer : {R A : Type 0} → LineRules R A → Type 0
HaveOneAnswer {R} {A} rules = (line : List ℕ) (request : R) (one other : A) → rules.asks line request → rules.answers request one → rules.answers request other → one ≡ other

-- the answer is one to what the line asks for
pub record LineIsAnswered {R A : Type 0} (rules : LineRules R A) (line : List ℕ) (answer : A) : Type 0 where
  pub request : R
  pub asks : rules.asks line request
  pub right : rules.answers request answer

-- the line asks for something
abbrev pub AsksForSome : {R A : Type 0} → LineRules R A → List ℕ → Type 0
AsksForSome {R} rules line = (request : R) × rules.asks line request

-- what the line does or is
abbrev pub AsksOrIsFaulty : {R A : Type 0} → LineRules R A → List ℕ → Type 0
AsksOrIsFaulty rules line = AsksForSome rules line ⊎ ((reason : FaultReason) × rules.is_faulty (fields_of line) reason)

-- what a line asks for has an answer
abbrev pub HaveAnswers : {R A : Type 0} → LineRules R A → Type 0
HaveAnswers {R} {A} rules = (line : List ℕ) (request : R) → rules.asks line request → (answer : A) × rules.answers request answer
