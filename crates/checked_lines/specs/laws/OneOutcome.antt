-- Bytes have one outcome by the rules of a text, by what holds of one line.
use Rattle.std.proofs.Common.{◌≡◌, ◌⊎◌, ℕ, ◌+◌, List, [], ◌∷◌, refl, sym, ◌∙◌, ap, ap₂, subst, inl, inr}
use Rattle.text_fields.specs.FaultLine.{fault_line}
use Rattle.text_fields.specs.Lines.{line_feed, lines_of}
use Rattle.text_fields.proofs.LineLaws.{some_piece}
use Rattle.checked_lines.specs.FaultWords.{reason_word}
use Rattle.checked_lines.specs.declared.fault.FaultReason.{FaultReason}
use Rattle.checked_lines.specs.TextRules.{TextRules, TextOutcome, Whole, Faulty, EndsIn, StopsAt, HasOutcome, HasOutcomeFrom, IsFaultText, IsFirstFault, IsText}

-- a line leads to one standing at most, or is faulty for one reason at most, and not both
pub record AreUnambiguous {S R : Type 0} (rules : TextRules S R) : Type 0 where
  pub one_standing : (from one other : S) (line : List ℕ) → rules.leads from line one → rules.leads from line other → one ≡ other
  pub one_reason : (from : S) (line : List ℕ) (one other : R) → rules.is_faulty from line one → rules.is_faulty from line other → one ≡ other
  pub not_faulty : (from to : S) (line : List ℕ) (reason : R) → rules.leads from line to → rules.is_faulty from line reason → ⊥

-- a line leads on or is faulty
abbrev pub LeadsOrIsFaulty : {S R : Type 0} → TextRules S R → S → List ℕ → Type 0
LeadsOrIsFaulty {S} {R} rules from line = ((to : S) × rules.leads from line to) ⊎ ((reason : R) × rules.is_faulty from line reason)

-- each line leads on or is faulty, and a text may end or may not
pub record AreComplete {S R : Type 0} (rules : TextRules S R) : Type 0 where
  pub lines : (from : S) (line : List ℕ) → LeadsOrIsFaulty rules from line
  pub ends : (standing : S) → rules.may_end standing ⊎ (¬ rules.may_end standing)

module _ {S R : Type 0} (rules : TextRules S R) (one : AreUnambiguous rules) where
  one_end : (standing : S) (number : ℕ) (rest : List ℕ) (a b : TextOutcome S R) → EndsIn rules standing number rest a → EndsIn rules standing number rest b → a ≡ b
  one_end standing number rest (Whole to) (Whole to') is is' = ap (λ (s : S). Whole s) (is.2 ∙ sym is'.2)
  one_end standing number rest (Whole to) (Faulty line reason) is is' = absurd (is'.0 is.0 is.1)
  one_end standing number rest (Faulty line reason) (Whole to) is is' = absurd (is.0 is'.0 is'.1)
  one_end standing number rest (Faulty line reason) (Faulty line' reason') is is' = ap₂ (λ (n : ℕ) (r : R). Faulty n r) (is.1 ∙ sym is'.1) (is.2 ∙ sym is'.2)

  one_stop : (from : S) (number : ℕ) (line : List ℕ) (a b : TextOutcome S R) → StopsAt rules from number line a → StopsAt rules from number line b → a ≡ b
  one_stop from number line (Whole to) b is is' = absurd is
  one_stop from number line a (Whole to) is is' = absurd is'
  one_stop from number line (Faulty n reason) (Faulty n' reason') is is' =
      ap₂ (λ (n : ℕ) (r : R). Faulty n r) (is.1 ∙ sym is'.1) (one.one_reason from line reason reason' is.0 is'.0)

  -- a line that leads on isn't faulty
  goes_on : (from to : S) (number : ℕ) (line : List ℕ) (outcome : TextOutcome S R) → rules.leads from line to → StopsAt rules from number line outcome → ⊥
  goes_on from to number line (Whole standing) leads stops = stops
  goes_on from to number line (Faulty n reason) leads stops = one.not_faulty from to line reason leads stops.0

  one_from : (from : S) (number : ℕ) (lines : List (List ℕ)) (a b : TextOutcome S R) → HasOutcomeFrom rules from number lines a → HasOutcomeFrom rules from number lines b → a ≡ b
  one_from from number [] a b is is' = absurd is
  one_from from number (line ∷ []) a b is is' = one_end from number line a b is is'
  one_from from number (line ∷ next ∷ lines) a b (inl stops) (inl stops') = one_stop from number line a b stops stops'
  one_from from number (line ∷ next ∷ lines) a b (inl stops) (inr more) = absurd (goes_on from more.0 number line a more.1 stops)
  one_from from number (line ∷ next ∷ lines) a b (inr more) (inl stops) = absurd (goes_on from more.0 number line b more.1 stops)
  one_from from number (line ∷ next ∷ lines) a b (inr more) (inr more') =
      let same = one.one_standing from more'.0 more.0 line more'.1 more.1 in
      one_from more.0 (number + 1) (next ∷ lines) a b more.2 (subst (λ (s : S). HasOutcomeFrom rules s (number + 1) (next ∷ lines) b) same more'.2)

  -- bytes have one outcome at most
  pub one_outcome : (bytes : List ℕ) (a b : TextOutcome S R) → HasOutcome rules bytes a → HasOutcome rules bytes b → a ≡ b
  one_outcome bytes a b is is' = one_from rules.start 1 (lines_of bytes) a b is is'

  -- a text stands in one way at its end
  pub one_text : (bytes : List ℕ) (a b : S) → IsText rules bytes a → IsText rules bytes b → a ≡ b
  one_text bytes a b is is' = let same = one_outcome bytes (Whole a) (Whole b) is is' in cc

  -- bytes have one first faulty line at most, with one first reason
  pub one_fault : (bytes : List ℕ) (line line' : ℕ) (reason reason' : R) → IsFirstFault rules bytes line reason → IsFirstFault rules bytes line' reason'
      → (line ≡ line') × (reason ≡ reason')
  one_fault bytes line line' reason reason' is is' =
      let same = one_outcome bytes (Faulty line reason) (Faulty line' reason') is is' in (cc, cc)

  -- bytes that are a text by the rules have no first faulty line
  pub text_not_faulty : (bytes : List ℕ) (standing : S) (line : ℕ) (reason : R) → IsText rules bytes standing → IsFirstFault rules bytes line reason → ⊥
  text_not_faulty bytes standing line reason is is' = let same = one_outcome bytes (Whole standing) (Faulty line reason) is is' in absurd cc

module _ {S R : Type 0} (rules : TextRules S R) (complete : AreComplete rules) where
  some_end : (standing : S) (number : ℕ) (rest : List ℕ) → rules.may_end standing ⊎ (¬ rules.may_end standing) → (outcome : TextOutcome S R) × EndsIn rules standing number rest outcome
  some_end standing number [] (inl may) = (Whole standing, (refl, may, refl))
  some_end standing number [] (inr never) = (Faulty number (rules.unended standing), (λ none. never, refl, refl))
  some_end standing number (byte ∷ rest) ends = (Faulty number (rules.unended standing), (λ none. cc, refl, refl))

  some_from : (from : S) (number : ℕ) (line : List ℕ) (lines : List (List ℕ)) → (outcome : TextOutcome S R) × HasOutcomeFrom rules from number (line ∷ lines) outcome
  some_from from number line [] = some_end from number line (complete.ends from)
  some_from from number line (next ∷ lines) = elim (complete.lines from line) [
    | inl leads ↦ let more = some_from leads.0 (number + 1) next lines in (more.0, inr (leads.0, leads.1, more.1))
    | inr faulty ↦ (Faulty number faulty.0, inl (faulty.1, refl))
  ]

  some_of : (lines : List (List ℕ)) → (lines ≡ [] → ⊥) → (outcome : TextOutcome S R) × HasOutcomeFrom rules rules.start 1 lines outcome
  some_of [] some = absurd (some refl)
  some_of (line ∷ lines) some = some_from rules.start 1 line lines

  -- bytes have an outcome
  pub some_outcome : (bytes : List ℕ) → (outcome : TextOutcome S R) × HasOutcome rules bytes outcome
  some_outcome bytes = some_of (lines_of bytes) (some_piece line_feed bytes)

-- bytes have one fault line at most
pub one_fault_text : {S : Type 0} (rules : TextRules S FaultReason) → AreUnambiguous rules → (bytes a b : List ℕ) → IsFaultText rules bytes a → IsFaultText rules bytes b → a ≡ b
one_fault_text rules one bytes a b is is' =
    let same = one_fault rules one bytes is.number is'.number is.reason is'.reason is.first is'.first in
    is.line ∙ ap₂ (λ (number : ℕ) (reason : FaultReason). fault_line number (reason_word reason)) same.0 same.1 ∙ sym is'.line
