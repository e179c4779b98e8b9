use Rattle.std.proofs.Common.{◌≡◌, ℕ, List, [], ◌∷◌, ◌++◌, All, IsUtf8, ap, sym, ◌∙◌, subst}
use Rattle.std.proofs.lemmas.List.{append_assoc}
use Rattle.std.proofs.lemmas.List.Elements.{All-head, All-tail}
use Rattle.top_call.specs.Form.{texts}
use Rattle.gen2_library.proofs.words.words_of.Goals as goal

-- a word more is read, and a field fewer is left
moved : (before after fields left all : List (List ℕ)) (word field : List ℕ) → after ≡ before ++ word ∷ [] → word ≡ field → fields ≡ field ∷ left → before ++ fields ≡ all
    → after ++ left ≡ all
moved before after fields left all word field added same steps known =
    ap (λ (words : List (List ℕ)). words ++ left) added ∙ append_assoc before (word ∷ []) left ∙ ap (λ (first : List ℕ). before ++ first ∷ left) same
    ∙ ap (λ (words : List (List ℕ)). before ++ words) (sym steps) ∙ known

pub loop-field-preserved : goal.loop-field-preserved
loop-field-preserved c = (
  moved (texts c.loop-field.words.items) (texts c.add.new.words.items) c.loop-field.fields c.next.new.self _ c.in-Ok.word.now c.in-Some.field.now c.in_ok-add-in-Ok.ensures
      c.in-Ok.ensures.cases.0 c.in-Some.ensures.steps c.loop-field.invariant.0,
  All-tail IsUtf8 c.in-Some.field.now c.next.new.self (subst (λ (words : List (List ℕ)). All IsUtf8 words) c.in-Some.ensures.steps c.loop-field.invariant.1),
)

pub unreachable-requires : goal.unreachable-requires
unreachable-requires c =
    c.in-Err.ensures.cases.0
    (All-head IsUtf8 c.in-Some.field.now c.next.new.self (subst (λ (words : List (List ℕ)). All IsUtf8 words) c.in-Some.ensures.steps c.loop-field.invariant.1))
