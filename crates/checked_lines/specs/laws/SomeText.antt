-- Bytes have a text: that of the first line and of what stands behind it.
use Rattle.std.proofs.Common.{◌≡◌, ◌⊎◌, ℕ, ◌+◌, List, [], ◌∷◌, ◌++◌, refl, sym, ◌∙◌, ap, subst, inl, inr}
use Rattle.text_fields.specs.Lines.{line_feed, lines_of}
use Rattle.text_fields.specs.FaultLine.{fault_line}
use Rattle.text_fields.proofs.LineLaws.{some_piece}
use Rattle.checked_lines.specs.FaultWords.{reason_word}
use Rattle.checked_lines.specs.LineRules.{LineRules, Answers, IsFaultyLineText, text_rules}
use Rattle.checked_lines.specs.TextRules.{Faulty, HasOutcomeFrom}
use Rattle.checked_lines.specs.declared.fault.FaultReason.{FaultReason}
use Rattle.checked_lines.specs.declared.fault.FaultReason.TheVariants.{End}
use Rattle.checked_lines.specs.laws.OneLine.{AsksOrIsFaulty, HaveAnswers, LineIsAnswered}
use Rattle.checked_lines.specs.laws.ReadingOn.{leads_on, stops_here}

-- the bytes have a text
abbrev pub HasText : {R A : Type 0} → LineRules R A → List ℕ → Type 0
HasText rules bytes = (text : List ℕ) × (Answers rules bytes text ⊎ IsFaultyLineText rules bytes text)

module _ {R A : Type 0} (rules : LineRules R A) where
  -- a fault of lines, which are counted from one more
  one_later : (number : ℕ) (lines : List (List ℕ)) (line : ℕ) (reason : FaultReason) → HasOutcomeFrom (text_rules rules) tt number lines (Faulty line reason)
      → HasOutcomeFrom (text_rules rules) tt (number + 1) lines (Faulty (line + 1) reason)
  one_later number [] line reason is = is
  one_later number (last ∷ []) line reason is = (is.0, ap (λ n. n + 1) is.1, is.2)
  one_later number (first ∷ next ∷ lines) line reason (inl stops) = inl (stops.0, ap (λ n. n + 1) stops.1)
  one_later number (first ∷ next ∷ lines) line reason (inr more) = inr (tt, more.1, one_later (number + 1) (next ∷ lines) line reason more.2)

  -- a line that is answered, and what stands behind it
  text_behind : (bytes line behind : List ℕ) (answer : A) → lines_of bytes ≡ line ∷ lines_of behind → LineIsAnswered rules line answer → HasText rules behind → HasText rules bytes
  text_behind bytes line behind answer lines answered (text, inl found) = (
    rules.line_of answer ++ text,
    inl (record {
      requests = answered.request ∷ found.requests;
      asks = record {
        lines = line ∷ found.asks.lines;
        cut = lines ∙ ap (λ (others : List (List ℕ)). line ∷ others) found.asks.cut;
        each = (answered.asks, found.asks.each);
      };
      answers = record {
        answers = answer ∷ found.answers.answers;
        each = (answered.right, found.answers.each);
        lines = ap (λ (others : List ℕ). rules.line_of answer ++ others) found.answers.lines;
      };
    }),
  )
  text_behind bytes line behind answer lines answered (text, inr refused) = (
    fault_line (refused.number + 1) (reason_word refused.reason),
    inr (record {
      number = refused.number + 1;
      reason = refused.reason;
      first =
          subst (λ (all : List (List ℕ)). HasOutcomeFrom (text_rules rules) tt 1 all (Faulty (refused.number + 1) refused.reason)) (sym lines)
          (leads_on (text_rules rules) tt tt 1 line (lines_of behind) (Faulty (refused.number + 1) refused.reason) (some_piece line_feed behind) (answered.request, answered.asks)
          (one_later 1 (lines_of behind) refused.number refused.reason refused.first));
      line = refl;
    }),
  )

  -- where the first line is the faulty one
  fault_first : (bytes : List ℕ) (lines : List (List ℕ)) (reason : FaultReason) → lines_of bytes ≡ lines → HasOutcomeFrom (text_rules rules) tt 1 lines (Faulty 1 reason) → HasText rules bytes
  fault_first bytes lines reason cut first = (
    fault_line 1 (reason_word reason),
    inr (record {
      number = 1;
      reason = reason;
      first = subst (λ (all : List (List ℕ)). HasOutcomeFrom (text_rules rules) tt 1 all (Faulty 1 reason)) (sym cut) first;
      line = refl;
    }),
  )

  -- bytes whose first line asks for something or is faulty have a text, where what stands behind it has one
  pub some_text : HaveAnswers rules → (bytes line behind : List ℕ) → lines_of bytes ≡ line ∷ lines_of behind → AsksOrIsFaulty rules line → HasText rules behind → HasText rules bytes
  some_text have bytes line behind lines (inl asked) others =
      let found = have line asked.0 asked.1 in
      text_behind bytes line behind found.0 lines (record { request = asked.0; asks = asked.1; right = found.1 }) others
  some_text have bytes line behind lines (inr faulty) others =
      fault_first bytes (line ∷ lines_of behind) faulty.0 lines (stops_here (text_rules rules) tt 1 line (lines_of behind) faulty.0 (some_piece line_feed behind) faulty.1)

  -- and so have bytes without a line feed
  pub last_text : (bytes : List ℕ) → lines_of bytes ≡ bytes ∷ [] → HasText rules bytes
  last_text [] lines = (
    [],
    inl (record {
      requests = [];
      asks = record { lines = []; cut = lines; each = tt };
      answers = record { answers = []; each = tt; lines = refl };
    }),
  )
  last_text (byte ∷ bytes) lines = fault_first (byte ∷ bytes) ((byte ∷ bytes) ∷ []) End lines ((λ none may. cc), refl, refl)
