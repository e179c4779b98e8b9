-- How lines are read one by one: what comes of those that are left comes of all.
use Rattle.std.proofs.Common.{◌≡◌, ◌≢◌, ℕ, ◌+◌, List, [], ◌∷◌, ◌++◌, length, refl, sym, ◌∙◌, ap, subst, inl, inr, arith}
use Rattle.std.proofs.lemmas.List.Splits.{join_with_byte-slice_split}
use Rattle.std.specs.List.{join_with_byte}
use Rattle.text_fields.specs.Lines.{line_feed, lines_of}
use Rattle.text_fields.proofs.LineLaws.{some_piece}
use Rattle.checked_lines.specs.TextRules.{TextRules, TextOutcome, Whole, Faulty, HasOutcomeFrom, Lead}

-- Of these lines, of which the first has the number `first` and stands at `from`, those before the one of this number lead to this standing,
-- and these are left.
pub record HasReadTo {S R : Type 0} (rules : TextRules S R) (from : S) (first : ℕ) (all : List (List ℕ)) (standing : S) (number : ℕ) (left : List (List ℕ)) : Type 0 where
  pub outcomes : (outcome : TextOutcome S R) → HasOutcomeFrom rules standing number left outcome → HasOutcomeFrom rules from first all outcome

-- the first of the lines that are left, and what stands behind it
pub record NextLine (left : List (List ℕ)) : Type 0 where
  pub line : List ℕ
  pub rest : List ℕ
  pub cut : left ≡ line ∷ lines_of rest

-- where one line without bytes is left, nothing is left
pub nothing_left : (rest : List ℕ) → lines_of rest ≡ [] ∷ [] → rest ≡ []
nothing_left rest cut = sym (join_with_byte-slice_split line_feed rest) ∙ ap (join_with_byte line_feed) cut

some_after : {A : Type 0} (before left : List A) → left ≢ [] → before ++ left ≢ []
some_after [] left some = some
some_after (first ∷ before) left some = λ none. cc

module _ {S R : Type 0} (rules : TextRules S R) where
  -- what comes of lines, where the first leads on
  pub leads_on : (from to : S) (number : ℕ) (line : List ℕ) (behind : List (List ℕ)) (outcome : TextOutcome S R) → behind ≢ [] → rules.leads from line to
      → HasOutcomeFrom rules to (number + 1) behind outcome → HasOutcomeFrom rules from number (line ∷ behind) outcome
  leads_on from to number line [] outcome some leads is = absurd (some refl)
  leads_on from to number line (next ∷ behind) outcome some leads is = inr (to, leads, is)

  -- what comes of lines, where the first is faulty: that is the first faulty line
  pub stops_here : (from : S) (number : ℕ) (line : List ℕ) (behind : List (List ℕ)) (reason : R) → behind ≢ [] → rules.is_faulty from line reason
      → HasOutcomeFrom rules from number (line ∷ behind) (Faulty number reason)
  stops_here from number line [] reason some faulty = absurd (some refl)
  stops_here from number line (next ∷ behind) reason some faulty = inl (faulty, refl)

  -- what comes of lines, of which those before a place lead there
  pub outcome_behind : (from to : S) (first number : ℕ) (before left : List (List ℕ)) (outcome : TextOutcome S R) → left ≢ [] → number ≡ first + length before → Lead rules from before to
      → HasOutcomeFrom rules to number left outcome → HasOutcomeFrom rules from first (before ++ left) outcome
  outcome_behind from to first number [] left outcome some place lead is =
      let same : number ≡ first = omega (arith, place) in
      subst (λ (n : ℕ). HasOutcomeFrom rules from n left outcome) same (subst (λ (s : S). HasOutcomeFrom rules s number left outcome) (sym lead) is)
  outcome_behind from to first number (line ∷ before) left outcome some place lead is =
      leads_on from lead.0 first line (before ++ left) outcome (some_after before left some) lead.1
      (outcome_behind lead.0 to (first + 1) number before left outcome some (omega (arith, place)) lead.2 is)

  -- what comes of lines that stand where each line is faulty as one too many: the first of them is the first faulty line
  extra_here : (standing : S) (number : ℕ) (rest : List ℕ) (left : List (List ℕ)) → lines_of rest ≡ left → ((line : List ℕ) → rules.is_faulty standing line (rules.unended standing)) → rest ≢ []
      → HasOutcomeFrom rules standing number left (Faulty number (rules.unended standing))
  extra_here standing number rest [] cut extra some = absurd (some_piece line_feed rest cut)
  extra_here standing number rest (line ∷ []) cut extra some =
      (λ none. absurd (some (nothing_left rest (cut ∙ ap (λ (l : List ℕ). l ∷ []) none))), refl, refl)
  extra_here standing number rest (line ∷ next ∷ left) cut extra some = inl (extra line, refl)

  -- no line is read
  pub none_read : (from : S) (first : ℕ) (all : List (List ℕ)) → HasReadTo rules from first all from first all
  none_read from first all = record { outcomes = λ outcome is. is }

  module _ (from : S) (first : ℕ) (all : List (List ℕ)) (standing : S) (number : ℕ) where
    -- one line more is read, which may stand there and leads on
    pub one_read : (left : List (List ℕ)) (next : NextLine left) (to : S) → HasReadTo rules from first all standing number left → rules.leads standing next.line to
        → HasReadTo rules from first all to (number + 1) (lines_of next.rest)
    one_read left next to so_far leads = record {
      outcomes = λ outcome is.
          so_far.outcomes outcome
          (subst (λ (lines : List (List ℕ)). HasOutcomeFrom rules standing number lines outcome) (sym next.cut)
          (leads_on standing to number next.line (lines_of next.rest) outcome (some_piece line_feed next.rest) leads is));
    }

    -- the next line is faulty
    pub fault_read : (left : List (List ℕ)) (next : NextLine left) (reason : R) → HasReadTo rules from first all standing number left → rules.is_faulty standing next.line reason
        → HasOutcomeFrom rules from first all (Faulty number reason)
    fault_read left next reason so_far faulty =
        so_far.outcomes (Faulty number reason)
        (subst (λ (lines : List (List ℕ)). HasOutcomeFrom rules standing number lines (Faulty number reason)) (sym next.cut)
        (stops_here standing number next.line (lines_of next.rest) reason (some_piece line_feed next.rest) faulty))

    -- it has no line feed, or is missing
    pub unended_read : (rest : List ℕ) → HasReadTo rules from first all standing number (lines_of rest) → lines_of rest ≡ rest ∷ [] → (rest ≡ [] → ¬ rules.may_end standing)
        → HasOutcomeFrom rules from first all (Faulty number (rules.unended standing))
    unended_read rest so_far last never =
        let reason = rules.unended standing in
        so_far.outcomes (Faulty number reason)
        (subst (λ (lines : List (List ℕ)). HasOutcomeFrom rules standing number lines (Faulty number reason)) (sym last) (never, refl, refl))

    -- nothing may stand there, and something does
    pub extra_read : (rest : List ℕ) → HasReadTo rules from first all standing number (lines_of rest) → ((line : List ℕ) → rules.is_faulty standing line (rules.unended standing)) → rest ≢ []
        → HasOutcomeFrom rules from first all (Faulty number (rules.unended standing))
    extra_read rest so_far extra some =
        so_far.outcomes (Faulty number (rules.unended standing)) (extra_here standing number rest (lines_of rest) refl extra some)

    -- nothing is left, and nothing is missing
    pub all_read : (rest : List ℕ) → HasReadTo rules from first all standing number (lines_of rest) → rest ≡ [] → rules.may_end standing
        → HasOutcomeFrom rules from first all (Whole standing)
    all_read rest so_far none may =
        so_far.outcomes (Whole standing)
        (subst (λ (left : List (List ℕ)). HasOutcomeFrom rules standing number left (Whole standing)) (sym (ap lines_of none)) (refl, may, refl))
