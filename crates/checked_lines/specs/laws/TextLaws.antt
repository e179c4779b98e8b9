-- What an outcome of lines says of them, by any rules of a text.
use Rattle.std.proofs.Common.{◌≡◌, ◌≢◌, ℕ, ◌+◌, List, [], ◌∷◌, ◌++◌, length, refl, sym, ap, subst, inl, inr, arith}
use Rattle.checked_lines.specs.TextRules.{TextRules, Whole, Faulty, HasOutcomeFrom, Lead}
use Rattle.checked_lines.specs.laws.OneOutcome.{AreUnambiguous}

-- the lines before what stands behind the last line feed, where a text may end
pub record EndsAt {S R : Type 0} (rules : TextRules S R) (from : S) (lines : List (List ℕ)) (to : S) : Type 0 where
  pub before : List (List ℕ)
  pub cut : lines ≡ before ++ [] ∷ []
  pub lead : Lead rules from before to
  pub may : rules.may_end to

-- the lines before the first faulty one
pub record StopsBehind {S R : Type 0} (rules : TextRules S R) (from : S) (first : ℕ) (lines : List (List ℕ)) (number : ℕ) (reason : R) : Type 0 where
  pub before : List (List ℕ)
  pub line : List ℕ
  pub behind : List (List ℕ)
  pub standing : S
  pub cut : lines ≡ before ++ line ∷ behind
  pub lead : Lead rules from before standing
  pub place : number ≡ first + length before
  pub faulty : behind ≢ [] → rules.is_faulty standing line reason

module _ {S R : Type 0} (rules : TextRules S R) where
  pub whole_ends : (from to : S) (number : ℕ) (lines : List (List ℕ)) → HasOutcomeFrom rules from number lines (Whole to) → EndsAt rules from lines to
  whole_ends from to number [] is = absurd is
  whole_ends from to number (line ∷ []) is =
      record { before = []; cut = ap (λ (l : List ℕ). l ∷ []) is.0; lead = sym is.2; may = subst rules.may_end (sym is.2) is.1 }
  whole_ends from to number (line ∷ next ∷ lines) (inl stops) = absurd stops
  whole_ends from to number (line ∷ next ∷ lines) (inr more) =
      let rest = whole_ends more.0 to (number + 1) (next ∷ lines) more.2 in
      record { before = line ∷ rest.before; cut = ap (λ (ls : List (List ℕ)). line ∷ ls) rest.cut; lead = (more.0, more.1, rest.lead); may = rest.may }

  pub fault_stops : (from : S) (first number : ℕ) (reason : R) (lines : List (List ℕ)) → HasOutcomeFrom rules from first lines (Faulty number reason)
      → StopsBehind rules from first lines number reason
  fault_stops from first number reason [] is = absurd is
  fault_stops from first number reason (line ∷ []) is = record {
    before = [];
    line = line;
    behind = [];
    standing = from;
    cut = refl;
    lead = refl;
    place = omega (arith, is.1);
    faulty = λ some. absurd (some refl);
  }
  fault_stops from first number reason (line ∷ next ∷ lines) (inl stops) = record {
    before = [];
    line = line;
    behind = next ∷ lines;
    standing = from;
    cut = refl;
    lead = refl;
    place = omega (arith, stops.1);
    faulty = λ some. stops.0;
  }
  fault_stops from first number reason (line ∷ next ∷ lines) (inr more) =
      let rest = fault_stops more.0 (first + 1) number reason (next ∷ lines) more.2 in
      record {
        before = line ∷ rest.before;
        line = rest.line;
        behind = rest.behind;
        standing = rest.standing;
        cut = ap (λ (ls : List (List ℕ)). line ∷ ls) rest.cut;
        lead = (more.0, more.1, rest.lead);
        place = omega (arith, rest.place);
        faulty = rest.faulty;
      }

  -- a line that others lead on behind isn't faulty where they lead
  pub lead_not_faulty : AreUnambiguous rules → (from standing to : S) (before more : List (List ℕ)) (line : List ℕ) (reason : R) → Lead rules from before standing
      → rules.is_faulty standing line reason → Lead rules from (before ++ line ∷ more) to → ⊥
  lead_not_faulty one from standing to [] more line reason here faulty lead =
      one.not_faulty standing lead.0 line reason (subst (λ (s : S). rules.leads s line lead.0) here lead.1) faulty
  lead_not_faulty one from standing to (first ∷ before) more line reason here faulty lead =
      let same = one.one_standing from lead.0 here.0 first lead.1 here.1 in
      lead_not_faulty one here.0 standing to before more line reason here.2 faulty (subst (λ (s : S). Lead rules s (before ++ line ∷ more) to) same lead.2)
