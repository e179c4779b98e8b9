-- Lists of tags that name each tag equally often send each pair equally often.
use Rattle.std.proofs.Common.{◌≡◌, inl, inr, ℕ, ◌+◌, ◌≤◌, Bool, true, false, List, [], ◌∷◌, ◌++◌, length, refl, sym, ap, ◌∙◌, eq-eqb, arith, cond, Option, Some, None}
use Rattle.std.specs.Prelude.{◌==◌, filter, slice_get}
use Rattle.std.specs.List.{AllZip, sum_by}
use Rattle.std.proofs.lemmas.Bool.{eqb-true}
use Rattle.std.proofs.lemmas.List.{length-append}
use Rattle.std.proofs.lemmas.List.Elements.{filter-append}
use Rattle.std.proofs.lemmas.List.Sums.{sum_by-append, sum_by-cons}
use Rattle.reply_grammar.specs.PcAndEpc.{same_pair}
use Rattle.two_portals.specs.Played.{times}
use Rattle.two_portals.proofs.Counts.{Pair, AreAlike, count, one-where, split}

times-append : (number : ℕ) (one other : List ℕ) → times number (one ++ other) ≡ times number one + times number other
times-append number one other =
    ap length (filter-append (λ (each : ℕ). each == number) one other)
    ∙ length-append (filter (λ (each : ℕ). each == number) one) (filter (λ (each : ℕ). each == number) other)

times-one : (number : ℕ) (passes : Bool) → length (cond passes (number ∷ []) []) ≡ one-where passes
times-one number true = refl
times-one number false = refl

times-first : (number first : ℕ) (numbers : List ℕ) → times number (first ∷ numbers) ≡ one-where (first == number) + times number numbers
times-first number first numbers = times-append number (first ∷ []) numbers ∙ ap (λ n. n + times number numbers) (times-one first (first == number))

-- a list around a number that stands in it
record Around (number : ℕ) (numbers : List ℕ) : Type 0 where
  front : List ℕ
  back : List ℕ
  is : numbers ≡ front ++ (number ∷ back)

around : (number : ℕ) (numbers : List ℕ) → 1 ≤ times number numbers → Around number numbers
around number [] named = absurd (omega (arith, named))
around number (first ∷ numbers) named =
    elim (split (first == number)) [
      | inl here ↦ record { front = []; back = numbers; is = ap (λ (n : ℕ). n ∷ numbers) (eqb-true first number here) }
      | inr there ↦
          let whole = times-first number first numbers in
          let none = ap one-where there in
          let later = around number numbers (omega (arith, whole, none, named)) in
          record { front = first ∷ later.front; back = later.back; is = ap (λ (l : List ℕ). first ∷ l) later.is }
    ]

abbrev pub NameAlike : List ℕ → List ℕ → Type 0
NameAlike one other = (number : ℕ) → times number one ≡ times number other

times-itself : (number : ℕ) (numbers : List ℕ) → 1 ≤ times number (number ∷ numbers)
times-itself number numbers =
    let whole = times-first number number numbers in
    let same = ap one-where (eq-eqb number number refl) in
    omega (arith, whole, same)

nothing-named : (numbers : List ℕ) → NameAlike [] numbers → numbers ≡ []
nothing-named [] alike = refl
nothing-named (first ∷ numbers) alike = absurd (let named = times-itself first numbers in let same = alike first in omega (arith, named, same))

-- numbers that are named equally often have one sum
pub sum-alike : (f : ℕ → ℕ) (one other : List ℕ) → NameAlike one other → sum_by f one ≡ sum_by f other
sum-alike f [] other alike = sym (ap (sum_by f) (nothing-named other alike))
sum-alike f (first ∷ one) other alike =
    let named = times-itself first one in
    let same = alike first in
    let place = around first other (omega (arith, named, same)) in
    let rest : NameAlike one (place.front ++ place.back) = λ number.
    let whole = times-first number first one in
    let both = alike number ∙ ap (times number) place.is ∙ times-append number place.front (first ∷ place.back) in
    let behind = times-first number first place.back in
    let joined = times-append number place.front place.back in
    omega (arith, whole, both, behind, joined) in
    let later = sum-alike f one (place.front ++ place.back) rest in
    let here = sum_by-cons f first one in
    let there = ap (sum_by f) place.is ∙ sum_by-append f place.front (first ∷ place.back) in
    let back = sum_by-cons f first place.back in
    let joined = sum_by-append f place.front place.back in
    omega (arith, later, here, there, back, joined)

-- 1 where the pair of a tag is this one
abbrev weight_of : Pair → Option Pair → ℕ
weight_of pair None = 0
weight_of pair (Some other) = cond (same_pair pair other) 1 0

-- how often a pair is sent, by the tags that send
sent-counted : (own : List Pair) (pair : Pair) (pairs : List Pair) (senders : List ℕ) → AllZip (λ sent number. slice_get own number ≡ Some sent) pairs senders
    → count pair pairs ≡ sum_by (λ number. weight_of pair (slice_get own number)) senders
sent-counted own pair [] [] sent = refl
sent-counted own pair (first ∷ pairs) (number ∷ senders) sent =
    let here = sum_by-cons (λ (other : Pair). cond (same_pair pair other) 1 0) first pairs in
    let there = sum_by-cons (λ (each : ℕ). weight_of pair (slice_get own each)) number senders in
    let weight = ap (weight_of pair) sent.0 in
    let later = sent-counted own pair pairs senders sent.1 in
    omega (arith, here, there, weight, later)
sent-counted own pair pairs senders sent = absurd sent

pub sent-alike : (own : List Pair) (one other : List Pair) (senders senders2 : List ℕ) → AllZip (λ sent number. slice_get own number ≡ Some sent) one senders
    → AllZip (λ sent number. slice_get own number ≡ Some sent) other senders2 → NameAlike senders senders2 → AreAlike one other
sent-alike own one other senders senders2 sent sent2 alike = λ pair.
    sent-counted own pair one senders sent ∙ sum-alike (λ number. weight_of pair (slice_get own number)) senders senders2 alike ∙ sym (sent-counted own pair other senders2 sent2)

-- who isn't there sends nothing
pub unknown-unnamed : (own : List Pair) (pairs : List Pair) (senders : List ℕ) (number : ℕ) → AllZip (λ sent each. slice_get own each ≡ Some sent) pairs senders
    → slice_get own number ≡ None → times number senders ≡ 0
unknown-unnamed own [] [] number sent unknown = refl
unknown-unnamed own (pair ∷ pairs) (first ∷ senders) number sent unknown =
    elim (split (first == number)) [
      | inl here ↦ absurd (let known = sent.0 in let same = eqb-true first number here in cc)
      | inr there ↦
          let whole = times-first number first senders in
          let none = ap one-where there in
          let later = unknown-unnamed own pairs senders number sent.1 unknown in
          omega (arith, whole, none, later)
    ]
unknown-unnamed own pairs senders number sent unknown = absurd sent
