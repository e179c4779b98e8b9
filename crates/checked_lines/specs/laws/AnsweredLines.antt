-- The answers to the lines before a place of the input.
use Rattle.std.proofs.Common.{◌≡◌, ◌≢◌, ℕ, ◌+◌, List, [], ◌∷◌, ◌++◌, length, refl, sym, ◌∙◌, ap, subst, arith, append_assoc, length-append}
use Rattle.std.specs.List.{AllZip, flat_map}
use Rattle.std.proofs.lemmas.List.Elements.{All-nil, All-push}
use Rattle.std.proofs.lemmas.Grind.{flat_map-append}
use Rattle.text_fields.specs.Lines.{Lacks, lines_of, fields_of, line_feed, text_with}
use Rattle.text_fields.proofs.LineLaws.{pieces_between-cut, some_line, some_piece, whole_piece}
use Rattle.text_fields.proofs.ListLaws.{flat_map_push, zip_push}
use Rattle.checked_lines.specs.LineRules.{LineRules, AskFor, AskForSome, Answers, IsFirstFaultyLine, text_rules}
use Rattle.checked_lines.specs.TextRules.{Faulty, HasOutcomeFrom}
use Rattle.checked_lines.specs.Answered.{AddsLineFor, AsksTo, AnswersTo}
use Rattle.checked_lines.specs.declared.fault.FaultReason.{FaultReason}
use Rattle.checked_lines.specs.declared.fault.FaultReason.TheVariants.{End}
use Rattle.checked_lines.specs.laws.OneLine.{AsksForSome, HaveAnswers}
use Rattle.checked_lines.specs.laws.FirstFault.{asked_lead, lines_behind}
use Rattle.checked_lines.specs.laws.ReadingOn.{outcome_behind, stops_here}

-- the bytes begin with a line and its line feed, and go on behind it
pub record WholeLine (bytes : List ℕ) : Type 0 where
  pub line : List ℕ
  pub behind : List ℕ
  pub cut : bytes ≡ line ++ line_feed ∷ behind
  pub lacks : Lacks line_feed line

zip_append : {A B : Type 0} (R : A → B → Type 0) (xs : List A) (ys : List B) (us : List A) (vs : List B) → AllZip R xs ys → AllZip R us vs → AllZip R (xs ++ us) (ys ++ vs)
zip_append R [] [] us vs first second = second
zip_append R [] (y ∷ ys) us vs first second = absurd first
zip_append R (x ∷ xs) [] us vs first second = absurd first
zip_append R (x ∷ xs) (y ∷ ys) us vs first second = (first.0, zip_append R xs ys us vs first.1 second)

module _ {R A : Type 0} (rules : LineRules R A) where
  -- no line of the input is read yet: all of it is left, and the next line is the first
  pub asks_none : (input : List ℕ) → AsksTo rules input input 1
  asks_none input = record { before = []; asked = []; cut = refl; whole = All-nil (Lacks line_feed); spelled = tt; count = refl }

  pub answers_none : (input text : List ℕ) → text ≡ [] → AnswersTo rules input input text 1
  unfolding asks_none
  answers_none input text none = record { asks = asks_none input; answers = []; right = tt; lines = none }

  -- one more piece of the input
  pub answers_piece : (input part piece text : List ℕ) (number : ℕ) → AnswersTo rules input part text number → AnswersTo rules (input ++ piece) (part ++ piece) text number
  answers_piece input part piece text number so_far = record {
    asks = record {
      before = so_far.asks.before;
      asked = so_far.asks.asked;
      cut = ap (λ bytes. bytes ++ piece) so_far.asks.cut ∙ append_assoc (text_with so_far.asks.before) part piece;
      whole = so_far.asks.whole;
      spelled = so_far.asks.spelled;
      count = so_far.asks.count;
    };
    answers = so_far.answers;
    right = so_far.right;
    lines = so_far.lines;
  }

  -- one more whole line of the input is read, which asks for this request
  pub asks_more : (input rest : List ℕ) (number : ℕ) (next : WholeLine rest) (request : R) → AsksTo rules input rest number → rules.asks next.line request → AsksTo rules input next.behind (number + 1)
  asks_more input rest number next request so_far asks =
      let line = next.line in
      record {
        before = so_far.before ++ line ∷ [];
        asked = so_far.asked ++ request ∷ [];
        cut =
            so_far.cut ∙ ap (λ bytes. text_with so_far.before ++ bytes) (next.cut ∙ sym (append_assoc line (line_feed ∷ []) next.behind))
            ∙ sym (append_assoc (text_with so_far.before) (line ++ line_feed ∷ []) next.behind)
            ∙ ap (λ bytes. bytes ++ next.behind) (sym (flat_map_push (λ (each : List ℕ). each ++ line_feed ∷ []) so_far.before line));
        whole = All-push (Lacks line_feed) so_far.before line so_far.whole next.lacks;
        spelled = zip_push rules.asks so_far.before so_far.asked line request so_far.spelled asks;
        count = omega (arith, so_far.count, length-append so_far.before (line ∷ []));
      }

  -- the line of the answer to one more whole line of the input is added to the text
  pub answers_more : (input rest old new : List ℕ) (number : ℕ) (next : WholeLine rest) → AnswersTo rules input rest old number → AddsLineFor rules next.line old new
      → AnswersTo rules input next.behind new (number + 1)
  unfolding asks_more
  answers_more input rest old new number next so_far answered =
      let request = answered.request in
      let adds = answered.adds in
      record {
        asks = asks_more input rest number next request so_far.asks answered.asks;
        answers = so_far.answers ++ adds.answer ∷ [];
        right = zip_push rules.answers so_far.asks.asked so_far.answers request adds.answer so_far.right adds.right;
        lines = adds.line ∙ ap (λ text. text ++ rules.line_of adds.answer) so_far.lines ∙ sym (flat_map_push rules.line_of so_far.answers adds.answer);
      }

  -- a fault behind lines that ask for something
  fault_behind : (lines before left : List (List ℕ)) (asked : List R) (number : ℕ) (reason : FaultReason) → lines ≡ before ++ left → left ≢ [] → AllZip rules.asks before asked
      → number ≡ length before + 1 → HasOutcomeFrom (text_rules rules) tt number left (Faulty number reason)
      → HasOutcomeFrom (text_rules rules) tt 1 lines (Faulty number reason)
  fault_behind lines before left asked number reason cut some asks count is =
      subst (λ (all : List (List ℕ)). HasOutcomeFrom (text_rules rules) tt 1 all (Faulty number reason)) (sym cut)
      (outcome_behind (text_rules rules) tt tt 1 number before left (Faulty number reason) some (omega (arith, count)) (asked_lead rules before asked asks) is)

  -- the next line is the first faulty one, whatever comes behind it
  pub fault_here : (input rest more : List ℕ) (number : ℕ) (next : WholeLine rest) (reason : FaultReason) → AsksTo rules input rest number
      → rules.is_faulty (fields_of next.line) reason → IsFirstFaultyLine rules (input ++ more) (record { line = number; reason = reason })
  fault_here input rest more number next reason so_far faulty =
      let line = next.line in
      let behind = next.behind ++ more in
      let there : input ++ more ≡ text_with so_far.before ++ (line ++ line_feed ∷ behind) =
      ap (λ bytes. bytes ++ more) (so_far.cut ∙ ap (λ bytes. text_with so_far.before ++ bytes) next.cut)
      ∙ append_assoc (text_with so_far.before) (line ++ line_feed ∷ next.behind) more
      ∙ ap (λ bytes. text_with so_far.before ++ bytes) (append_assoc line (line_feed ∷ next.behind) more) in
      let cut : lines_of (input ++ more) ≡ so_far.before ++ line ∷ lines_of behind =
      ap lines_of there ∙ lines_behind so_far.before (line ++ line_feed ∷ behind) so_far.whole
      ∙ ap (λ lines. so_far.before ++ lines) (pieces_between-cut line_feed (line ++ line_feed ∷ behind) line behind next.lacks refl) in
      fault_behind (lines_of (input ++ more)) so_far.before (line ∷ lines_of behind) so_far.asked number reason cut (λ none. cc) so_far.spelled so_far.count
      (stops_here (text_rules rules) tt number line (lines_of behind) reason (some_piece line_feed behind) faulty)

  -- the last line has no line feed
  pub fault_last : (input part : List ℕ) (number : ℕ) → AsksTo rules input part number → Lacks line_feed part → part ≢ []
      → IsFirstFaultyLine rules input (record { line = number; reason = End })
  fault_last input part number so_far lacks some =
      fault_behind (lines_of input) so_far.before (part ∷ []) so_far.asked number End
      (ap lines_of so_far.cut ∙ lines_behind so_far.before part so_far.whole ∙ ap (λ lines. so_far.before ++ lines) (whole_piece line_feed part lacks)) (λ none. cc)
      so_far.spelled so_far.count ((λ none may. some none), refl, refl)

  -- each line asks for something
  pub asks_all : (input rest : List ℕ) (number : ℕ) → (so_far : AsksTo rules input rest number) → rest ≡ [] → AskFor rules input so_far.asked
  asks_all input rest number so_far none = record {
    lines = so_far.before;
    cut = ap lines_of (so_far.cut ∙ ap (λ bytes. text_with so_far.before ++ bytes) none) ∙ lines_behind so_far.before [] so_far.whole;
    each = so_far.spelled;
  }

  -- nothing of the input is left: the text is the answers to all its lines
  pub answers_all : (input part text : List ℕ) (number : ℕ) → AnswersTo rules input part text number → part ≡ [] → Answers rules input text
  answers_all input part text number so_far none = record {
    requests = so_far.asks.asked;
    asks = asks_all input part number so_far.asks none;
    answers = record { answers = so_far.answers; each = so_far.right; lines = so_far.lines };
  }

  -- the first line of bytes of which each line asks for something does so, and so do those behind it
  first_asks : (lines : List (List ℕ)) (requests : List R) (bytes line behind : List ℕ) → AllZip rules.asks lines requests → lines_of bytes ≡ lines ++ [] ∷ []
      → lines_of bytes ≡ line ∷ lines_of behind → AsksForSome rules line × AskForSome rules behind
  first_asks [] [] bytes line behind each cut split =
      let none : [] ≡ lines_of behind = cc in
      absurd (omega (arith, ap length none, some_line behind))
  first_asks [] (r ∷ requests) bytes line behind each cut split = absurd each
  first_asks (l ∷ lines) [] bytes line behind each cut split = absurd each
  first_asks (l ∷ lines) (r ∷ requests) bytes line behind each cut split =
      let same : l ≡ line = cc in
      let rest : lines_of behind ≡ lines ++ [] ∷ [] = cc in
      ((r, rw (sym same) each.0), (requests, record { lines = lines; cut = rest; each = each.1 }))

  pub line_asks : (bytes line behind : List ℕ) → AskForSome rules bytes → lines_of bytes ≡ line ∷ lines_of behind
      → AsksForSome rules line × AskForSome rules behind
  line_asks bytes line behind asks split = first_asks asks.1.lines asks.0 bytes line behind asks.1.each asks.1.cut split

  -- what requests have answers has a list of them
  some_answers : HaveAnswers rules → (lines : List (List ℕ)) (requests : List R) → AllZip rules.asks lines requests → (answers : List A) × AllZip rules.answers requests answers
  some_answers have [] [] each = ([], tt)
  some_answers have [] (r ∷ requests) each = absurd each
  some_answers have (l ∷ lines) [] each = absurd each
  some_answers have (l ∷ lines) (r ∷ requests) each =
      let first = have l r each.0 in
      let others = some_answers have lines requests each.1 in
      (first.0 ∷ others.0, (first.1, others.1))

  -- the text so far is a front of the answers to all lines, where those that are left ask for something
  pub answers_rest : HaveAnswers rules → (input rest text : List ℕ) (number : ℕ) → AnswersTo rules input rest text number → AskForSome rules rest
      → (tail : List ℕ) × Answers rules input (text ++ tail)
  answers_rest have input rest text number so_far others =
      let more = some_answers have others.1.lines others.0 others.1.each in
      let tail = flat_map rules.line_of more.0 in (
        tail,
        record {
          requests = so_far.asks.asked ++ others.0;
          asks = record {
            lines = so_far.asks.before ++ others.1.lines;
            cut =
                ap lines_of so_far.asks.cut ∙ lines_behind so_far.asks.before rest so_far.asks.whole ∙ ap (λ lines. so_far.asks.before ++ lines) others.1.cut
                ∙ sym (append_assoc so_far.asks.before others.1.lines ([] ∷ []));
            each = zip_append rules.asks so_far.asks.before so_far.asks.asked others.1.lines others.0 so_far.asks.spelled others.1.each;
          };
          answers = record {
            answers = so_far.answers ++ more.0;
            each = zip_append rules.answers so_far.asks.asked so_far.answers others.0 more.0 so_far.right more.1;
            lines = ap (λ (front : List ℕ). front ++ tail) so_far.lines ∙ sym (flat_map-append rules.line_of so_far.answers more.0);
          };
        },
      )
