-- A text has one first faulty line at most, and none where each line asks for something.
use Rattle.std.proofs.Common.{◌≡◌, ℕ, List, [], ◌∷◌, ◌++◌, refl, sym, ◌∙◌, ap, subst, append_assoc}
use Rattle.std.specs.Prelude.{All}
use Rattle.std.specs.List.{AllZip}
use Rattle.std.proofs.lemmas.List.Elements.{All-head, All-tail}
use Rattle.text_fields.specs.Lines.{Lacks, fields_of, line_feed, lines_of, text_with}
use Rattle.text_fields.proofs.LineLaws.{pieces_between-cut}
use Rattle.checked_lines.specs.LineRules.{LineRules, AskForSome, IsFaultyLineText, IsFirstFaultyLine, text_rules}
use Rattle.checked_lines.specs.TextRules.{HasOutcomeFrom, Lead, Whole}
use Rattle.checked_lines.specs.declared.fault.FaultyLine.{FaultyLine}
use Rattle.checked_lines.specs.laws.OneLine.{TellLines}
use Rattle.checked_lines.specs.laws.OneOutcome.{AreUnambiguous, one_fault_text, text_not_faulty}
use Rattle.checked_lines.specs.laws.ReadingOn.{outcome_behind}

-- the lines of a text that begins with whole lines
pub lines_behind : (before : List (List ℕ)) (rest : List ℕ) → All (Lacks line_feed) before → lines_of (text_with before ++ rest) ≡ before ++ lines_of rest
lines_behind [] rest lack = refl
lines_behind (line ∷ before) rest lack =
    pieces_between-cut line_feed (text_with (line ∷ before) ++ rest) line (text_with before ++ rest) (All-head (Lacks line_feed) line before lack)
    (append_assoc (line ++ line_feed ∷ []) (text_with before) rest ∙ append_assoc line (line_feed ∷ []) (text_with before ++ rest))
    ∙ ap (λ (lines : List (List ℕ)). line ∷ lines) (lines_behind before rest (All-tail (Lacks line_feed) line before lack))

module _ {R A : Type 0} (rules : LineRules R A) where
  -- lines that ask for something may stand one after another
  pub asked_lead : (before : List (List ℕ)) (asked : List R) → AllZip rules.asks before asked → Lead (text_rules rules) tt before tt
  asked_lead [] [] asks = refl
  asked_lead [] (request ∷ asked) asks = absurd asks
  asked_lead (line ∷ before) [] asks = absurd asks
  asked_lead (line ∷ before) (request ∷ asked) asks = (tt, (request, asks.0), asked_lead before asked asks.1)

module _ {R A : Type 0} (rules : LineRules R A) (tell : TellLines rules) where
  unambiguous : AreUnambiguous (text_rules rules)
  unambiguous = record {
    one_standing = λ from one other line leads leads'. refl;
    one_reason = λ from line one other is is'. tell.one_reason (fields_of line) one other is is';
    not_faulty = λ from to line reason asks faulty. tell.not_faulty line asks.0 reason asks.1 faulty;
  }

  -- bytes have one fault line
  pub same_refused : (bytes one other : List ℕ) → IsFaultyLineText rules bytes one → IsFaultyLineText rules bytes other → one ≡ other
  same_refused = one_fault_text (text_rules rules) unambiguous

  -- bytes of which each line asks for something have no faulty line
  pub asked_not_faulty : (bytes : List ℕ) (fault : FaultyLine) → AskForSome rules bytes → IsFirstFaultyLine rules bytes fault → ⊥
  asked_not_faulty bytes fault asks first =
      text_not_faulty (text_rules rules) unambiguous bytes tt fault.line fault.reason
      (subst (λ (lines : List (List ℕ)). HasOutcomeFrom (text_rules rules) tt 1 lines (Whole tt)) (sym asks.1.cut)
      (outcome_behind (text_rules rules) tt tt 1 _ asks.1.lines ([] ∷ []) (Whole tt) (λ none. cc) refl (asked_lead rules asks.1.lines asks.0 asks.1.each) (refl, tt, refl)))
      first
