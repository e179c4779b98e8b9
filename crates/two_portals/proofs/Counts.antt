-- Two lists of pairs hold each pair equally often exactly where the test of sameness says so.
use Rattle.std.proofs.Common.{◌≡◌, ◌⊎◌, inl, inr, ℕ, zero, suc, ◌+◌, ◌≤◌, Bool, true, false, List, [], ◌∷◌, ◌++◌, refl, sym, ap, subst, eq-eqb, arith, cond}
use Rattle.std.specs.Prelude.{◌==◌, count_by, Contains}
use Rattle.std.specs.Cmp.{first_so, second_so}
use Rattle.std.proofs.lemmas.Bool.{eqb-true}
use Rattle.std.proofs.lemmas.List.Elements.{Contains-append_right}
use Rattle.std.proofs.lemmas.List.Sums.{sum_by-append, sum_by-cons}
use Rattle.reply_grammar.specs.PcAndEpc.{same_pair}
use Rattle.reply_grammar.proofs.SamePairs.{same_pair-is, same_pair-refl}
use Rattle.two_portals.specs.PortalLines.{agree_on, are_same}

abbrev pub Pair : Type 0
Pair = ℕ × List ℕ

-- how often a pair stands in a list
abbrev pub count : Pair → List Pair → ℕ
count pair pairs = count_by (same_pair pair) pairs

abbrev pub AreAlike : List Pair → List Pair → Type 0
AreAlike one other = (pair : Pair) → count pair one ≡ count pair other

-- a list counts one more where a test passes
abbrev pub one-where : Bool → ℕ
one-where passes = cond passes 1 0

pub split : (b : Bool) → (b ≡ true) ⊎ (b ≡ false)
split true = inl refl
split false = inr refl

count-first : (pair first : Pair) (pairs : List Pair) → count pair (first ∷ pairs) ≡ cond (same_pair pair first) 1 0 + count pair pairs
count-first pair first pairs = sum_by-cons (λ (other : Pair). cond (same_pair pair other) 1 0) first pairs

count-append : (pair : Pair) (one other : List Pair) → count pair (one ++ other) ≡ count pair one + count pair other
count-append pair one other = sum_by-append (λ (each : Pair). cond (same_pair pair each) 1 0) one other

pub count-itself : (pair : Pair) (pairs : List Pair) → 1 ≤ count pair (pair ∷ pairs)
count-itself pair pairs =
    let first = count-first pair pair pairs in
    let same = ap one-where (same_pair-refl pair) in
    omega (arith, first, same)

-- a pair that is counted stands in the list
pub counted-stands : (pair : Pair) (pairs : List Pair) → 1 ≤ count pair pairs → Contains pairs pair
counted-stands pair [] counted = absurd (omega (arith, counted))
counted-stands pair (first ∷ pairs) counted =
    elim (split (same_pair pair first)) [
      | inl same ↦ (0, omega arith, sym (same_pair-is pair first same))
      | inr other ↦
          let here = count-first pair first pairs in
          let none = ap one-where other in
          Contains-append_right (first ∷ []) pairs pair (counted-stands pair pairs (omega (arith, here, none, counted)))
    ]

-- without a first pair that both have
pub alike-rest : (first : Pair) (one other : List Pair) → AreAlike (first ∷ one) (first ∷ other) → AreAlike one other
alike-rest first one other alike = λ pair.
    let left = count-first pair first one in
    let right = count-first pair first other in
    let both = alike pair in
    omega (arith, left, right, both)

agree-alike : (pairs one other : List Pair) → AreAlike one other → agree_on pairs one other ≡ true
agree-alike [] one other alike = refl
agree-alike (pair ∷ pairs) one other alike = rw (eq-eqb (count pair one) (count pair other) (alike pair), agree-alike pairs one other alike) refl

pub alike-same : (one other : List Pair) → AreAlike one other → are_same one other ≡ true
alike-same one other alike = agree-alike (one ++ other) one other alike

agree-at : (pair : Pair) (pairs one other : List Pair) → agree_on pairs one other ≡ true → 1 ≤ count pair pairs → count pair one ≡ count pair other
agree-at pair [] one other agree counted = absurd (omega (arith, counted))
agree-at pair (first ∷ pairs) one other agree counted =
    let here = count first one == count first other in
    let later = agree_on pairs one other in
    elim (split (same_pair pair first)) [
      | inl same ↦
          subst (λ (each : Pair). count each one ≡ count each other) (sym (same_pair-is pair first same)) (eqb-true (count first one) (count first other) (first_so here later agree))
      | inr unlike ↦
          let whole = count-first pair first pairs in
          let none = ap one-where unlike in
          agree-at pair pairs one other (second_so here later agree) (omega (arith, whole, none, counted))
    ]

zero-or-more : (n : ℕ) → (n ≡ 0) ⊎ (1 ≤ n)
zero-or-more zero = inl refl
zero-or-more (suc n) = inr (omega arith)

pub same-alike : (one other : List Pair) → are_same one other ≡ true → AreAlike one other
same-alike one other same = λ pair.
    let whole = count-append pair one other in
    elim (zero-or-more (count pair (one ++ other))) [
      | inl none ↦ omega (arith, whole, none)
      | inr some ↦ agree-at pair (one ++ other) one other same some
    ]
