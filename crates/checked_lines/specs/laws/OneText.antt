-- A text of lines has one text of answers at most.
use Rattle.std.proofs.Common.{◌≡◌, ℕ, List, [], ◌∷◌, refl, sym, ◌∙◌, ap, subst}
use Rattle.std.specs.List.{AllZip, flat_map}
use Rattle.std.proofs.lemmas.List.{append_cancel_right}
use Rattle.checked_lines.specs.LineRules.{LineRules, Answers}
use Rattle.checked_lines.specs.laws.OneLine.{LineIsAnswered, TellLines, HaveOneAnswer}

-- each line has its answer
answered_lines : {R A : Type 0} (rules : LineRules R A) (lines : List (List ℕ)) (asked : List R) (answers : List A) → AllZip rules.asks lines asked → AllZip rules.answers asked answers
    → AllZip (LineIsAnswered rules) lines answers
answered_lines rules [] [] [] asks right = tt
answered_lines rules [] [] (a ∷ answers) asks right = absurd right
answered_lines rules [] (r ∷ asked) answers asks right = absurd asks
answered_lines rules (l ∷ lines) [] answers asks right = absurd asks
answered_lines rules (l ∷ lines) (r ∷ asked) [] asks right = absurd right
answered_lines rules (l ∷ lines) (r ∷ asked) (a ∷ answers) asks right =
    (record { request = r; asks = asks.0; right = right.0 }, answered_lines rules lines asked answers asks.1 right.1)

module _ {R A : Type 0} (rules : LineRules R A) (tell : TellLines rules) (one_answer : HaveOneAnswer rules) where
  same_answered : (line : List ℕ) (one other : A) → LineIsAnswered rules line one → LineIsAnswered rules line other → one ≡ other
  same_answered line one other left right =
      let requests : right.request ≡ left.request = tell.one_request line right.request left.request right.asks left.asks in
      one_answer line left.request one other left.asks left.right (subst (λ request. rules.answers request other) requests right.right)

  -- lines have one list of answers
  same_answers : (lines : List (List ℕ)) (one other : List A) → AllZip (LineIsAnswered rules) lines one → AllZip (LineIsAnswered rules) lines other → one ≡ other
  same_answers [] [] [] left right = refl
  same_answers [] [] (b ∷ other) left right = absurd right
  same_answers [] (a ∷ one) other left right = absurd left
  same_answers (l ∷ lines) [] other left right = absurd left
  same_answers (l ∷ lines) (a ∷ one) [] left right = absurd right
  same_answers (l ∷ lines) (a ∷ one) (b ∷ other) left right =
      let first : a ≡ b = same_answered l a b left.0 right.0 in
      let rest : one ≡ other = same_answers lines one other left.1 right.1 in
      cc

  -- bytes have one text of answers
  pub same_text : (bytes one other : List ℕ) → Answers rules bytes one → Answers rules bytes other → one ≡ other
  same_text bytes one other left right =
      let lines : right.asks.lines ≡ left.asks.lines = append_cancel_right right.asks.lines left.asks.lines ([] ∷ []) (sym right.asks.cut ∙ left.asks.cut) in
      let mine = answered_lines rules left.asks.lines left.requests left.answers.answers left.asks.each left.answers.each in
      let yours = answered_lines rules right.asks.lines right.requests right.answers.answers right.asks.each right.answers.each in
      let answers : left.answers.answers ≡ right.answers.answers =
      same_answers left.asks.lines left.answers.answers right.answers.answers mine (subst (λ each. AllZip (LineIsAnswered rules) each right.answers.answers) lines yours) in
      left.answers.lines ∙ ap (λ all. flat_map rules.line_of all) answers ∙ sym right.answers.lines
