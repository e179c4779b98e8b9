use Rattle.std.proofs.Common.{◌≡◌, ℕ, List, ◌∷◌, All, Contains, IsUtf8, suc, refl, sym, subst, arith}
use Rattle.std.proofs.lemmas.List.Elements.{All-cons}
use Rattle.gen2_library.proofs.words.has_unreadable_word.Goals as goal

first : (words others : List (List ℕ)) (word : List ℕ) → words ≡ word ∷ others → Contains words word
first words others word are = subst (λ (all : List (List ℕ)). Contains all word) (sym are) (0, omega arith, refl)

later : (words others : List (List ℕ)) (word other : List ℕ) → words ≡ word ∷ others → Contains others other → Contains words other
later words others word other are has = subst (λ (all : List (List ℕ)). Contains all other) (sym are) (suc has.0, omega (arith, has.1), has.2)

each : (words others : List (List ℕ)) (word : List ℕ) → words ≡ word ∷ others → IsUtf8 word → All IsUtf8 others → All IsUtf8 words
each words others word are is all = subst (λ (all : List (List ℕ)). All IsUtf8 all) (sym are) (All-cons IsUtf8 word others is all)

pub loop-field-init : goal.loop-field-init
loop-field-init c = (
  λ all. subst (λ (words : List (List ℕ)). All IsUtf8 words) c.new-fields.ensures all,
  λ word has. subst (λ (words : List (List ℕ)). Contains words word) c.new-fields.ensures has,
)

pub returns-in_default-from_utf8-clause-one : goal.returns-in_default-from_utf8-clause-one
returns-in_default-from_utf8-clause-one c = λ told.
    let word = c.in-Some.field.now in
    (word, c.loop-field.invariant.1 word (first _ c.next.new.self word c.in-Some.ensures.steps), c.in_default-from_utf8.ensures.cases.0)

pub loop-field-preserved : goal.loop-field-preserved
loop-field-preserved c = (
  λ all. c.loop-field.invariant.0 (each _ c.next.new.self c.in-Some.field.now c.in-Some.ensures.steps c.in-Ok.ensures.cases.1 all),
  λ word has. c.loop-field.invariant.1 word (later _ c.next.new.self c.in-Some.field.now word c.in-Some.ensures.steps has),
)
