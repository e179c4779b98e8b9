-- How many tags are listed, from how many times each number is.
use Rattle.runs.proofs.Names.{◌≡◌, ℕ, zero, suc, ◌+◌, ◌<◌, ◌≤◌, ◌==◌, ◌⊎◌, inl, inr, List, [], ◌∷◌, length, Some, slice_get, if◌then◌else◌, refl, ap, sym, ◌∙◌, subst, arith, eq-eqb, ne_eqb, cases_lt}
use Rattle.runs.proofs.Names.{AllByRecursion, Start, Item, HasNumber, is_spoken_to, tags_spoken_to, times, tag_after_query, SpecValue, TagValue}
use Rattle.runs.proofs.Times.{bit, times-first}

-- the sum of a function of so many numbers from the first one on
sum_from : ℕ → ℕ → (ℕ → ℕ) → ℕ
sum_from first zero f = 0
sum_from first (suc more) f = f first + sum_from (first + 1) more f

sum-same : (first count : ℕ) (f g : ℕ → ℕ) → ((k : ℕ) → first ≤ k → k < first + count → f k ≡ g k) → sum_from first count f ≡ sum_from first count g
unfolding sum_from
sum-same first zero f g same = refl
sum-same first (suc more) f g same =
    let here = same first (omega arith) (omega arith) in
    let rest = sum-same (first + 1) more f g (λ k above below. same k (omega arith) (omega arith)) in
    omega (arith, here, rest)

sum-zero : (first count : ℕ) → sum_from first count (λ k. 0) ≡ 0
unfolding sum_from
sum-zero first zero = refl
sum-zero first (suc more) = let rest = sum-zero (first + 1) more in omega arith

sum-both : (first count : ℕ) (f g : ℕ → ℕ) → sum_from first count (λ k. f k + g k) ≡ sum_from first count f + sum_from first count g
unfolding sum_from
sum-both first zero f g = refl
sum-both first (suc more) f g = let rest = sum-both (first + 1) more f g in omega arith

-- a number before the first one is not counted
sum-none : (number first count : ℕ) → number < first → sum_from first count (λ k. bit (number == k)) ≡ 0
sum-none number first count before =
    sum-same first count (λ k. bit (number == k)) (λ k. 0) (λ k above below. ap bit (ne_eqb number k (λ same. absurd (omega (arith, same, above, before)))))
    ∙ sum-zero first count

-- each other number is counted once
sum-step : (number first more : ℕ) → first ≤ number → (first < number) ⊎ (number ≤ first)
    → (first < number → sum_from (first + 1) more (λ k. bit (number == k)) ≡ 1)
    → bit (number == first) + sum_from (first + 1) more (λ k. bit (number == k)) ≡ 1
sum-step number first more above (inl behind) later =
    let here : bit (number == first) ≡ 0 = ap bit (ne_eqb number first (λ same. absurd (omega (arith, same, behind)))) in
    let rest = later behind in
    omega (arith, here, rest)
sum-step number first more above (inr before) later =
    let here : bit (number == first) ≡ 1 = ap bit (eq-eqb number first (omega arith)) in
    let rest = sum-none number (first + 1) more (omega arith) in
    omega (arith, here, rest)

sum-once : (number first count : ℕ) → first ≤ number → number < first + count → sum_from first count (λ k. bit (number == k)) ≡ 1
unfolding sum_from
sum-once number first zero above below = absurd (omega arith)
sum-once number first (suc more) above below =
    sum-step number first more above (cases_lt first number) (λ behind. sum-once number (first + 1) more (omega arith) (omega arith))

-- numbers below one, each as often as it stands in a list, are as many as the list has
times-sum : (count : ℕ) (numbers : List ℕ) → AllByRecursion (λ number. number < count) numbers → sum_from 0 count (λ k. times k numbers) ≡ length numbers
times-sum count [] below = sum-zero 0 count
times-sum count (number ∷ numbers) below =
    let rest = times-sum count numbers below.1 in
    let once = sum-once number 0 count (omega arith) (omega (arith, below.0)) in
    sum-same 0 count (λ k. times k (number ∷ numbers)) (λ k. bit (number == k) + times k numbers) (λ k above less. times-first k number numbers)
    ∙ sum-both 0 count (λ k. bit (number == k)) (λ k. times k numbers)
    ∙ omega (arith, rest, once)

is-below : (count first : ℕ) (others : List ℕ) → ((k : ℕ) → count ≤ k → times k (first ∷ others) ≡ 0) → (first < count) ⊎ (count ≤ first) → first < count
is-below count first others none (inl below) = below
is-below count first others none (inr above) =
    let here : bit (first == first) ≡ 1 = ap bit (eq-eqb first first refl) in
    let found = times-first first first others in
    let nothing = none first above in
    absurd (omega (arith, here, found, nothing))

-- where no larger number stands in a list, all are below
all-below : (count : ℕ) (numbers : List ℕ) → ((k : ℕ) → count ≤ k → times k numbers ≡ 0) → AllByRecursion (λ number. number < count) numbers
all-below count [] none = tt
all-below count (first ∷ others) none = (
  is-below count first others none (cases_lt first count),
  all-below count others (λ k above. let both = times-first k first others in let nothing = none k above in omega (arith, both, nothing)),
)

-- the tags that a Query speaks to, one by one
spoken-sum : (spec : SpecValue) (round : ℕ) (history : List Item) (number : ℕ) (tags : List TagValue) (f : ℕ → ℕ)
    → ((place : ℕ) (tag : TagValue) → slice_get tags place ≡ Some tag → f (number + place) ≡ (if is_spoken_to spec (tag_after_query round history (number + place) tag) then 1 else 0))
    → sum_from number (length tags) f ≡ tags_spoken_to spec round history number tags
unfolding sum_from
spoken-sum spec round history number [] f each = refl
spoken-sum spec round history number (tag ∷ tags) f each =
    let here : f number ≡ (if is_spoken_to spec (tag_after_query round history number tag) then 1 else 0) =
    subst (λ n. f n ≡ (if is_spoken_to spec (tag_after_query round history n tag) then 1 else 0)) (omega arith) (each 0 tag refl) in
    let rest : sum_from (number + 1) (length tags) f ≡ tags_spoken_to spec round history (number + 1) tags =
    spoken-sum spec round history (number + 1) tags f
    (λ place later at. subst (λ n. f n ≡ (if is_spoken_to spec (tag_after_query round history n later) then 1 else 0)) (omega arith) (each (suc place) later at)) in
    omega (arith, here, rest)

-- Where each tag that a Query speaks to is listed once, and no other number, as many are listed as it speaks to.
pub as-many-listed : (start : Start) (spec : SpecValue) (round : ℕ) (history : List Item) (numbers : List ℕ)
    → ((number : ℕ) (tag : TagValue) → HasNumber start number tag → times number numbers ≡ (if is_spoken_to spec (tag_after_query round history number tag) then 1 else 0))
    → ((number : ℕ) → length start.tags ≤ number → times number numbers ≡ 0)
    → length numbers ≡ tags_spoken_to spec round history 0 start.tags
as-many-listed start spec round history numbers each none =
    sym (times-sum (length start.tags) numbers (all-below (length start.tags) numbers none))
    ∙ spoken-sum spec round history 0 start.tags (λ number. times number numbers)
    (λ place tag at.
    subst (λ n. times n numbers ≡ (if is_spoken_to spec (tag_after_query round history n tag) then 1 else 0)) (omega arith) (each place tag at))

sum-most : (first count : ℕ) (f : ℕ → ℕ) → ((k : ℕ) → f k ≤ 1) → sum_from first count f ≤ count
unfolding sum_from
sum-most first zero f most = omega arith
sum-most first (suc more) f most = let here = most first in let rest = sum-most (first + 1) more f most in omega (arith, here, rest)

-- numbers below one, none of which stands in a list twice, are no more than that
pub few-once : (count : ℕ) (numbers : List ℕ) → AllByRecursion (λ number. number < count) numbers → ((number : ℕ) → times number numbers ≤ 1) → length numbers ≤ count
few-once count numbers below once = subst (λ n. n ≤ count) (times-sum count numbers below) (sum-most 0 count (λ k. times k numbers) once)
