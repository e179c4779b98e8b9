-- The laws of extensible bit vectors.
use Rattle.std.specs.Prelude.{◌≡◌, ℕ, ◌+◌, ◌*◌, ◌/◌, ◌%◌, ◌^◌, ◌<◌, ◌≤◌, Bool, true, false, List, [], ◌∷◌, ◌++◌, length, take, slice_get, Option, Some, All, nat_lt, refl}
use Rattle.std.proofs.Common.{sym, ◌∙◌, ap, subst, inl, inr, arith, append_assoc, append-nil, length-take}
use Rattle.std.proofs.Math.Nat.{pow-suc, pow-le-pow_right, mul-le-mul_right}
use Rattle.std.proofs.lemmas.Nat.{mul-add-lt, same_from_place}
use Rattle.std.proofs.lemmas.List.{take_at, take-append-le}
use Rattle.std.proofs.lemmas.Bool.{cases_lt, cond-true, cond-false, lt-ltb, le-ltb}
use Rattle.std.proofs.lemmas.List.Elements.{All-head, All-tail, All-cons, All-nil}
use Rattle.bit_strings.specs.NumbersInBits.{value_of, field_of}
use Rattle.bit_strings.specs.laws.NumbersInBits.{length-field_of, value_of-within, value_of-field_of, same_from_value}
use Rattle.bit_strings.specs.Ebv.{IsEbv, number_of_digits, blocks_of, IsShortest, BeginsWithNothing, IsTooLong, ebv_of}
use Rattle.bit_strings.specs.laws.Lists.{slice_get-append_right, slice_get-front, slice_get-inside}

-- each digit has seven bits
abbrev pub AreSevens : List (List Bool) → Type 0
AreSevens digits = All (λ digit. length digit ≡ 7) digits

pub seven-head : (d : List Bool) (ds : List (List Bool)) → AreSevens (d ∷ ds) → length d ≡ 7
seven-head d ds sevens = All-head (λ digit. length digit ≡ 7) d ds sevens

pub seven-tail : (d : List Bool) (ds : List (List Bool)) → AreSevens (d ∷ ds) → AreSevens ds
seven-tail d ds sevens = All-tail (λ digit. length digit ≡ 7) d ds sevens

seven-cons : (d : List Bool) (ds : List (List Bool)) → length d ≡ 7 → AreSevens ds → AreSevens (d ∷ ds)
seven-cons d ds seven sevens = All-cons (λ digit. length digit ≡ 7) d ds seven sevens

seven-none : AreSevens []
seven-none = All-nil (λ digit. length digit ≡ 7)

-- lists of one length in front of two equal lists are equal, and so is what follows
pub append_apart : (xs ys more rest : List Bool) → length xs ≡ length ys → xs ++ more ≡ ys ++ rest → (xs ≡ ys) × (more ≡ rest)
append_apart [] [] more rest lengths same = (refl, same)
append_apart [] (y ∷ ys) more rest lengths same = absurd (omega arith)
append_apart (x ∷ xs) [] more rest lengths same = absurd (omega arith)
append_apart (x ∷ xs) (y ∷ ys) more rest lengths same =
    let head : x ≡ y = cc in
    let tail : xs ++ more ≡ ys ++ rest = cc in
    let found : (xs ≡ ys) × (more ≡ rest) = append_apart xs ys more rest (omega arith) tail in
    (cc, found.1)

pub shortest-some : (ds : List (List Bool)) → IsShortest ds → 0 < length ds
shortest-some [] shortest = absurd shortest
shortest-some (d ∷ ds) shortest = omega arith

pub number_of_digits-below : (ds : List (List Bool)) → AreSevens ds → number_of_digits ds < 128 ^ length ds
number_of_digits-below [] sevens = omega arith
number_of_digits-below (d ∷ ds) sevens =
    let digit : value_of d < 128 = value_of-within d 7 (omega (arith, seven-head d ds sevens)) in
    let others : number_of_digits ds < 128 ^ length ds = number_of_digits-below ds (seven-tail d ds sevens) in
    omega (arith, mul-add-lt (value_of d) (128 ^ length ds) (number_of_digits ds) 128 digit others, pow-suc 128 (length ds))

number_of_digits-above : (d d' : List Bool) (ds : List (List Bool)) → IsShortest (d ∷ d' ∷ ds) → 128 ^ length (d' ∷ ds) ≤ number_of_digits (d ∷ d' ∷ ds)
number_of_digits-above d d' ds shortest =
    let some : 1 ≤ value_of d = omega (arith, shortest) in
    omega (arith, mul-le-mul_right (128 ^ length (d' ∷ ds)) some)

digits_within : (ds es : List (List Bool)) → AreSevens ds → IsShortest es → 0 < length ds → number_of_digits ds ≡ number_of_digits es → length es ≤ length ds
digits_within ds [] ss shortest some same = omega arith
digits_within ds (e ∷ []) ss shortest some same = omega arith
digits_within ds (e ∷ e' ∷ es) ss shortest some same =
    elim (cases_lt (length ds) (length (e ∷ e' ∷ es))) [
      | inl less ↦
          let grows : 128 ^ length ds ≤ 128 ^ length (e' ∷ es) = pow-le-pow_right (omega arith) (omega arith) in
          absurd (omega (arith, number_of_digits-below ds ss, number_of_digits-above e e' es shortest))
      | inr within ↦ within
    ]

digits_same : (ds es : List (List Bool)) → length ds ≡ length es → AreSevens ds → AreSevens es → number_of_digits ds ≡ number_of_digits es → ds ≡ es
digits_same [] [] lengths ss ts same = refl
digits_same [] (e ∷ es) lengths ss ts same = absurd (omega arith)
digits_same (d ∷ ds) [] lengths ss ts same = absurd (omega arith)
digits_same (d ∷ ds) (e ∷ es) lengths ss ts same =
    let tails : length es ≡ length ds = omega arith in
    let turned : value_of d * 128 ^ length ds + number_of_digits ds ≡ value_of e * 128 ^ length ds + number_of_digits es = same ∙ ap (λ n. value_of e * 128 ^ n + number_of_digits es) tails in
    let below : number_of_digits es < 128 ^ length ds = subst (λ (n : ℕ). number_of_digits es < 128 ^ n) tails (number_of_digits-below es (seven-tail e es ts)) in
    let found : (value_of d ≡ value_of e) × (number_of_digits ds ≡ number_of_digits es) = same_from_place (value_of d) (number_of_digits ds) (value_of e) (number_of_digits es) (128 ^ length ds) (number_of_digits-below ds (seven-tail d ds ss)) below turned in
    let first : d ≡ e = same_from_value d e (seven-head d ds ss ∙ sym (seven-head e es ts)) found.0 in
    let others : ds ≡ es = digits_same ds es (omega arith) (seven-tail d ds ss) (seven-tail e es ts) found.1 in
    cc

pub one-ebv : (number : ℕ) (xs ys : List Bool) → IsEbv number xs → IsEbv number ys → xs ≡ ys
one-ebv number xs ys left right =
    let numbers : number_of_digits left.digits ≡ number_of_digits right.digits = sym left.value ∙ right.value in
    let more : length right.digits ≤ length left.digits = digits_within left.digits right.digits left.sevens right.shortest (shortest-some left.digits left.shortest) numbers in
    let fewer : length left.digits ≤ length right.digits = digits_within right.digits left.digits right.sevens left.shortest (shortest-some right.digits right.shortest) (sym numbers) in
    let digits : left.digits ≡ right.digits = digits_same left.digits right.digits (omega arith) left.sevens right.sevens numbers in
    left.spelled ∙ ap blocks_of digits ∙ sym right.spelled

pub below-ebv : (number : ℕ) (bits : List Bool) → IsEbv number bits → number < 2 ^ 28
below-ebv number bits ebv =
    let grows : 128 ^ length ebv.digits ≤ 128 ^ 4 = pow-le-pow_right (omega arith) ebv.few in
    omega (arith, number_of_digits-below ebv.digits ebv.sevens, ebv.value)

-- the digit at a place of a number
digit-at : (number place : ℕ) → value_of (field_of (number / place) 7) ≡ number / place % 128
digit-at number place = value_of-field_of (number / place) 7

digit-last : (number : ℕ) → value_of (field_of number 7) ≡ number % 128
digit-last number = value_of-field_of number 7

one-block : (n : ℕ) → n < 128 → IsEbv n (blocks_of (field_of n 7 ∷ []))
one-block n small = record {
  digits = field_of n 7 ∷ [];
  sevens = seven-cons (field_of n 7) [] (length-field_of n 7) seven-none;
  few = omega arith;
  shortest = tt;
  value = omega (arith, digit-last n);
  spelled = refl;
}

two-blocks : (n : ℕ) → 128 ≤ n → n < 16384 → IsEbv n (blocks_of (field_of (n / 128) 7 ∷ field_of n 7 ∷ []))
two-blocks n large small = record {
  digits = field_of (n / 128) 7 ∷ field_of n 7 ∷ [];
  sevens = seven-cons (field_of (n / 128) 7) (field_of n 7 ∷ []) (length-field_of (n / 128) 7) (seven-cons (field_of n 7) [] (length-field_of n 7) seven-none);
  few = omega arith;
  shortest = λ h. omega (arith, digit-at n 128);
  value = omega (arith, digit-last n, digit-at n 128);
  spelled = refl;
}

three-blocks : (n : ℕ) → 16384 ≤ n → n < 2097152 → IsEbv n (blocks_of (field_of (n / 16384) 7 ∷ field_of (n / 128) 7 ∷ field_of n 7 ∷ []))
three-blocks n large small = record {
  digits = field_of (n / 16384) 7 ∷ field_of (n / 128) 7 ∷ field_of n 7 ∷ [];
  sevens = seven-cons (field_of (n / 16384) 7) (field_of (n / 128) 7 ∷ field_of n 7 ∷ []) (length-field_of (n / 16384) 7)
      (seven-cons (field_of (n / 128) 7) (field_of n 7 ∷ []) (length-field_of (n / 128) 7) (seven-cons (field_of n 7) [] (length-field_of n 7) seven-none));
  few = omega arith;
  shortest = λ h. omega (arith, digit-at n 16384);
  value = omega (arith, digit-last n, digit-at n 128, digit-at n 16384);
  spelled = refl;
}

four-blocks : (n : ℕ) → 2097152 ≤ n → n < 2 ^ 28 → IsEbv n (blocks_of (field_of (n / 2097152) 7 ∷ field_of (n / 16384) 7 ∷ field_of (n / 128) 7 ∷ field_of n 7 ∷ []))
four-blocks n large small = record {
  digits = field_of (n / 2097152) 7 ∷ field_of (n / 16384) 7 ∷ field_of (n / 128) 7 ∷ field_of n 7 ∷ [];
  sevens = seven-cons (field_of (n / 2097152) 7) (field_of (n / 16384) 7 ∷ field_of (n / 128) 7 ∷ field_of n 7 ∷ []) (length-field_of (n / 2097152) 7)
      (seven-cons (field_of (n / 16384) 7) (field_of (n / 128) 7 ∷ field_of n 7 ∷ []) (length-field_of (n / 16384) 7)
      (seven-cons (field_of (n / 128) 7) (field_of n 7 ∷ []) (length-field_of (n / 128) 7) (seven-cons (field_of n 7) [] (length-field_of n 7) seven-none)));
  few = omega arith;
  shortest = λ h. omega (arith, digit-at n 2097152);
  value = omega (arith, digit-last n, digit-at n 128, digit-at n 16384, digit-at n 2097152);
  spelled = refl;
}

-- which blocks a number takes
pub ebv_of-one : (n : ℕ) → n < 128 → ebv_of n ≡ blocks_of (field_of n 7 ∷ [])
ebv_of-one n small = cond-true (nat_lt n 128) _ _ (lt-ltb n 128 small)

pub ebv_of-two : (n : ℕ) → 128 ≤ n → n < 16384 → ebv_of n ≡ blocks_of (field_of (n / 128) 7 ∷ field_of n 7 ∷ [])
ebv_of-two n large small = cond-false (nat_lt n 128) _ _ (le-ltb n 128 large) ∙ cond-true (nat_lt n 16384) _ _ (lt-ltb n 16384 small)

pub ebv_of-three : (n : ℕ) → 16384 ≤ n → n < 2097152 → ebv_of n ≡ blocks_of (field_of (n / 16384) 7 ∷ field_of (n / 128) 7 ∷ field_of n 7 ∷ [])
ebv_of-three n large small =
    cond-false (nat_lt n 128) _ _ (le-ltb n 128 (omega arith)) ∙ cond-false (nat_lt n 16384) _ _ (le-ltb n 16384 large)
    ∙ cond-true (nat_lt n 2097152) _ _ (lt-ltb n 2097152 small)

pub ebv_of-four : (n : ℕ) → 2097152 ≤ n → ebv_of n ≡ blocks_of (field_of (n / 2097152) 7 ∷ field_of (n / 16384) 7 ∷ field_of (n / 128) 7 ∷ field_of n 7 ∷ [])
ebv_of-four n large =
    cond-false (nat_lt n 128) _ _ (le-ltb n 128 (omega arith)) ∙ cond-false (nat_lt n 16384) _ _ (le-ltb n 16384 (omega arith))
    ∙ cond-false (nat_lt n 2097152) _ _ (le-ltb n 2097152 large)

pub IsEbv-ebv_of : (number : ℕ) → number < 2 ^ 28 → IsEbv number (ebv_of number)
IsEbv-ebv_of number small =
    elim (cases_lt number 128) [
      | inl one ↦ rw (ebv_of-one number one) (one-block number one)
      | inr above ↦ elim (cases_lt number 16384) [
        | inl two ↦ rw (ebv_of-two number above two) (two-blocks number above two)
        | inr above2 ↦ elim (cases_lt number 2097152) [
          | inl three ↦ rw (ebv_of-three number above2 three) (three-blocks number above2 three)
          | inr above3 ↦ rw (ebv_of-four number above3) (four-blocks number above3 small)
        ]
      ]
    ]

pub same-ebv : (number : ℕ) (bits : List Bool) → IsEbv number bits → bits ≡ ebv_of number
same-ebv number bits ebv = one-ebv number bits (ebv_of number) ebv (IsEbv-ebv_of number (below-ebv number bits ebv))

last-block : (d : List Bool) (ds : List (List Bool)) (rest : List Bool) (i : ℕ) → i ≡ 8 * length ds → AreSevens (d ∷ ds) → slice_get (blocks_of (d ∷ ds) ++ rest) i ≡ Some false
last-block d [] rest i place sevens = ap (λ k. slice_get (false ∷ d ++ rest) k) place
last-block d (d' ∷ ds) rest i place sevens =
    let seven : length d ≡ 7 = seven-head d (d' ∷ ds) sevens in
    let tail : slice_get (blocks_of (d' ∷ ds) ++ rest) (8 * length ds) ≡ Some false = last-block d' ds rest (8 * length ds) refl (seven-tail d (d' ∷ ds) sevens) in
    let turned : (true ∷ d ++ blocks_of (d' ∷ ds)) ++ rest ≡ (true ∷ d) ++ (blocks_of (d' ∷ ds) ++ rest) = append_assoc (true ∷ d) (blocks_of (d' ∷ ds)) rest in
    ap (λ (b : List Bool). slice_get b i) turned ∙ slice_get-append_right (true ∷ d) (blocks_of (d' ∷ ds) ++ rest) (8 * length ds) i (omega arith) ∙ tail

not-both : {o : Option Bool} → o ≡ Some false → o ≡ Some true → ⊥
not-both here there = cc

ends-blocks : (ds : List (List Bool)) (rest : List Bool) → AreSevens ds → 0 < length ds → length ds ≤ 4 → slice_get (blocks_of ds ++ rest) 0 ≡ Some true → slice_get (blocks_of ds ++ rest) 8 ≡ Some true → slice_get (blocks_of ds ++ rest) 16 ≡ Some true → slice_get (blocks_of ds ++ rest) 24 ≡ Some true → ⊥
ends-blocks [] rest sevens some few first second third fourth = omega arith
ends-blocks (d ∷ []) rest sevens some few first second third fourth = not-both (last-block d [] rest 0 refl sevens) first
ends-blocks (d ∷ e ∷ []) rest sevens some few first second third fourth = not-both (last-block d (e ∷ []) rest 8 refl sevens) second
ends-blocks (d ∷ e ∷ f ∷ []) rest sevens some few first second third fourth = not-both (last-block d (e ∷ f ∷ []) rest 16 refl sevens) third
ends-blocks (d ∷ e ∷ f ∷ g ∷ []) rest sevens some few first second third fourth = not-both (last-block d (e ∷ f ∷ g ∷ []) rest 24 refl sevens) fourth
ends-blocks (d ∷ e ∷ f ∷ g ∷ h ∷ ds) rest sevens some few first second third fourth = omega arith

unfoldable pub zeros : List Bool
zeros = false ∷ false ∷ false ∷ false ∷ false ∷ false ∷ false ∷ []

-- a first block that says nothing has the digit 0
pub nothing-digit : (d behind : List Bool) → length d ≡ 7 → BeginsWithNothing (true ∷ d ++ behind) → value_of d ≡ 0
unfolding zeros
nothing-digit d behind seven nothing =
    let front : take 7 (d ++ behind) ≡ zeros = cc in
    let digit : take 7 (d ++ behind) ≡ d = take_at d behind 7 seven in
    ap value_of (sym digit ∙ front)

says-blocks : (ds : List (List Bool)) (rest : List Bool) → AreSevens ds → IsShortest ds → ¬ BeginsWithNothing (blocks_of ds ++ rest)
says-blocks [] rest sevens shortest nothing = shortest
says-blocks (d ∷ []) rest sevens shortest nothing = cc
says-blocks (d ∷ d' ∷ ds) rest sevens shortest nothing =
    let turned : (true ∷ d ++ blocks_of (d' ∷ ds)) ++ rest ≡ true ∷ d ++ (blocks_of (d' ∷ ds) ++ rest) = append_assoc (true ∷ d) (blocks_of (d' ∷ ds)) rest in
    shortest (nothing-digit d (blocks_of (d' ∷ ds) ++ rest) (seven-head d (d' ∷ ds) sevens) (subst BeginsWithNothing turned nothing))

-- a vector's first block says something
pub says-ebv : (number : ℕ) (bits rest : List Bool) → IsEbv number bits → ¬ BeginsWithNothing (bits ++ rest)
says-ebv number bits rest ebv nothing =
    says-blocks ebv.digits rest ebv.sevens ebv.shortest (subst (λ (b : List Bool). BeginsWithNothing (b ++ rest)) ebv.spelled nothing)

-- a vector's last block says that none follows
pub ends-ebv : (number : ℕ) (bits rest : List Bool) → IsEbv number bits → slice_get (bits ++ rest) 0 ≡ Some true → slice_get (bits ++ rest) 8 ≡ Some true → slice_get (bits ++ rest) 16 ≡ Some true → slice_get (bits ++ rest) 24 ≡ Some true → ⊥
ends-ebv number bits rest ebv first second third fourth =
    let turn : blocks_of ebv.digits ++ rest ≡ bits ++ rest = ap (λ (b : List Bool). b ++ rest) (sym ebv.spelled) in
    let at : (i : ℕ) → slice_get (bits ++ rest) i ≡ Some true → slice_get (blocks_of ebv.digits ++ rest) i ≡ Some true = λ i here. ap (λ (b : List Bool). slice_get b i) turn ∙ here in
    ends-blocks ebv.digits rest ebv.sevens (shortest-some ebv.digits ebv.shortest) ebv.few (at 0 first) (at 8 second) (at 16 third) (at 24 fourth)

-- bits behind those that begin no vector change nothing
pub nothing-more : (bits more : List Bool) → BeginsWithNothing bits → BeginsWithNothing (bits ++ more)
nothing-more bits more nothing =
    take-append-le 8 bits more (omega (arith, ap length nothing, length-take 8 bits)) ∙ nothing

pub too_long-more : (bits more : List Bool) → IsTooLong bits → IsTooLong (bits ++ more)
too_long-more bits more long = record {
  first = slice_get-front bits more 0 true long.first;
  second = slice_get-front bits more 8 true long.second;
  third = slice_get-front bits more 16 true long.third;
  fourth = slice_get-front bits more 24 true long.fourth;
  says = λ nothing. long.says (sym (take-append-le 8 bits more (omega (arith, slice_get-inside bits 24 true long.fourth))) ∙ nothing);
}

-- no extensible bit vector begins with bits whose first block says nothing
pub no_ebv-nothing : (number : ℕ) (bits more : List Bool) → IsEbv number (bits ++ more) → BeginsWithNothing bits → ⊥
no_ebv-nothing number bits more ebv nothing = says-ebv number (bits ++ more) [] ebv (subst BeginsWithNothing (sym (append-nil (bits ++ more))) (nothing-more bits more nothing))

pub no_ebv-long : (number : ℕ) (bits more : List Bool) → IsEbv number (bits ++ more) → IsTooLong bits → ⊥
no_ebv-long number bits more ebv long =
    let whole : IsTooLong ((bits ++ more) ++ []) = subst IsTooLong (sym (append-nil (bits ++ more))) (too_long-more bits more long) in
    ends-ebv number (bits ++ more) [] ebv whole.first whole.second whole.third whole.fourth
