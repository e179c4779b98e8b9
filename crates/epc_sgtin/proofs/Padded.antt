-- Decimal digits with leading zeros.
use Rattle.std.proofs.Common.{◌≡◌, ◌⊎◌, ℕ, zero, suc, ◌+◌, ◌-◌, ◌*◌, ◌/◌, ◌%◌, ◌^◌, ◌<◌, ◌≤◌, true, false, List, [], ◌∷◌, ◌++◌, length, take, get_or, refl, sym, ◌∙◌, ap, subst, arith, inl, inr, append_assoc, length-append, append-nil, drop, add-one, lit<}
use Rattle.std.specs.Char.{digit_value}
use Rattle.std.specs.Fmt.{decimal}
use Rattle.std.specs.Str.Parse.{digits_value}
use Rattle.std.specs.Int.{IsInRange}
use Rattle.std.proofs.Math.Nat.{pow-suc, one-le-pow, mod-eq_of_lt}
use Rattle.std.proofs.lemmas.Bool.{false≢true}
use Rattle.std.proofs.lemmas.Bool.Decides.{nat_tests}
use Rattle.std.proofs.lemmas.Fmt.{decimal_by_steps}
use Rattle.std.proofs.lemmas.Str.Parse.{IsDigitsTest, IsNumeralModel, numerals_by_value, digits_value_short}
use Rattle.std.proofs.lemmas.Int.Digits.{digits_value_push, digits_value_more, digits_value-lt}
use Rattle.std.specs.Prelude.{slice_set}
use Rattle.std.proofs.Math.ListN.{length-set}
use Rattle.std.proofs.lemmas.List.{length-take-le, drop_all, drop-set, take_more, take_all}
use Rattle.std.proofs.lemmas.List.Elements.{All-nil, All-cons, All-head, All-tail, All-push, All-get_or}
use Rattle.epc_sgtin.specs.Uri.{padded}
use Rattle.epc_sgtin.specs.UriFaults.{is_digit, AreDigits}

pub padded-none : (value width : ℕ) → width ≡ 0 → padded value width ≡ []
unfolding padded
padded-none value width none = ap (padded value) none

pub padded-more : (value width places : ℕ) → width ≡ places + 1 → padded value width ≡ padded (value / 10) places ++ (48 + value % 10) ∷ []
unfolding padded
padded-more value width places step = ap (padded value) (step ∙ add-one places)

pub length-padded : (value width : ℕ) → length (padded value width) ≡ width
unfolding padded
length-padded value zero = refl
length-padded value (suc width) = omega (arith, length-append (padded (value / 10) width) ((48 + value % 10) ∷ []), length-padded (value / 10) width)

-- a digit of a number is a digit
is_digit-digit : (n : ℕ) → n < 10 → is_digit (48 + n) ≡ true
is_digit-digit n small = grind (arith, nat_tests)

pub AreDigits-padded : (value width : ℕ) → AreDigits (padded value width)
unfolding padded
AreDigits-padded value zero = All-nil (λ byte. is_digit byte ≡ true)
AreDigits-padded value (suc width) =
    All-push (λ byte. is_digit byte ≡ true) (padded (value / 10) width) (48 + value % 10) (AreDigits-padded (value / 10) width) (is_digit-digit (value % 10) (omega arith))

digit_value-digit : (n : ℕ) → n < 10 → digit_value (48 + n) ≡ n
digit_value-digit n small = grind (arith, nat_tests)

digit-digit_value : (byte : ℕ) → is_digit byte ≡ true → 48 + digit_value byte ≡ byte
digit-digit_value byte is = grind (arith, nat_tests)

digit_value-small : (byte : ℕ) → is_digit byte ≡ true → digit_value byte < 10
digit_value-small byte is = grind (arith, nat_tests)

-- the number that the digits of a number write
pub digits_value-padded : (value width : ℕ) → value < 10 ^ width → digits_value 10 (padded value width) ≡ value
unfolding padded
digits_value-padded value zero small = omega arith
digits_value-padded value (suc width) small =
    let tenth : value / 10 < 10 ^ width = omega (arith, pow-suc 10 width) in
    omega (arith, digits_value_push 10 (padded (value / 10) width) (48 + value % 10), digits_value-padded (value / 10) width tenth, digit_value-digit (value % 10) (omega arith))

-- two numbers with the same digits are one
pub padded_injective : (one other width : ℕ) → one < 10 ^ width → other < 10 ^ width → padded one width ≡ padded other width → one ≡ other
padded_injective one other width p q same = sym (digits_value-padded one width p) ∙ ap (digits_value 10) same ∙ digits_value-padded other width q

-- the digits of a front of digits
front_padded : (ds : List ℕ) (i : ℕ) → AreDigits ds → i ≤ length ds → padded (digits_value 10 (take i ds)) i ≡ take i ds
unfolding padded
front_padded ds zero are within = refl
front_padded ds (suc i) are within =
    let here : i < length ds = omega arith in
    let byte = get_or ds i 0 in
    let digit : is_digit byte ≡ true = All-get_or (λ b. is_digit b ≡ true) ds i 0 here are in
    let value : digits_value 10 (take (i + 1) ds) ≡ digits_value 10 (take i ds) * 10 + digit_value byte = digits_value_more 10 ds i here in
    let tenth : digits_value 10 (take (i + 1) ds) / 10 ≡ digits_value 10 (take i ds) = omega (arith, digit_value-small byte digit) in
    let last : 48 + digits_value 10 (take (i + 1) ds) % 10 ≡ byte = omega (arith, digit_value-small byte digit, digit-digit_value byte digit) in
    let turned : padded (digits_value 10 (take (i + 1) ds)) (suc i) ≡ take (i + 1) ds =
    rw (tenth, last, front_padded ds i are (omega arith)) (sym (take_more ds i 0 here)) in
    subst (λ n. padded (digits_value 10 (take n ds)) (suc i) ≡ take n ds) (add-one i) turned

-- digits are the digits of the number that they write
pub padded-digits_value : (ds : List ℕ) → AreDigits ds → padded (digits_value 10 ds) (length ds) ≡ ds
padded-digits_value ds are =
    let all : take (length ds) ds ≡ ds = take_all (length ds) ds (omega arith) in
    subst (λ (t : List ℕ). padded (digits_value 10 t) (length ds) ≡ t) all (front_padded ds (length ds) are (omega arith))

-- a number has these digits in each width that has no leading zero
abbrev HasDigits : ℕ → List ℕ → Type 0
HasDigits n ds = (k : ℕ) → (k ≡ 0) ⊎ (10 ^ k ≤ n) → n < 10 ^ (k + 1) → padded n (k + 1) ≡ ds

one_digit : (n : ℕ) → n < 10 → HasDigits n ((48 + n) ∷ [])
one_digit n small zero first below =
    padded-more n (zero + 1) 0 (omega arith) ∙ rw (padded-none (n / 10) 0 refl, mod-eq_of_lt small)
one_digit n small (suc k) first below = elim first [
  | inl none ↦ absurd (omega arith)
  | inr long ↦ absurd (omega (arith, pow-suc 10 k, one-le-pow k 10 (lit< tt)))
]

more_digits : (n : ℕ) (ds : List ℕ) → 10 ≤ n → HasDigits (n / 10) ds → HasDigits n (ds ++ ((48 + n % 10) ∷ []))
more_digits n ds large has zero first below = absurd (omega arith)
more_digits n ds large has (suc k) first below =
    let step : suc k + 1 ≡ suc (k + 1) = omega arith in
    let below' : n < 10 ^ suc (k + 1) = subst (λ m. n < 10 ^ m) step below in
    let tenth : n / 10 < 10 ^ (k + 1) = omega (arith, pow-suc 10 (k + 1)) in
    let front : (k ≡ 0) ⊎ (10 ^ k ≤ n / 10) = elim first [ inl none ↦ absurd (omega arith) | inr long ↦ inr (omega (arith, pow-suc 10 k)) ] in
    padded-more n (suc k + 1) (k + 1) (omega arith) ∙ ap (λ (t : List ℕ). t ++ (48 + n % 10) ∷ []) (has k front tenth)

-- a number's decimal digits are those of a width that has no leading zero
pub decimal_padded : (n width : ℕ) → n < 2 ^ 64 → 1 ≤ width → (width ≡ 1) ⊎ (10 ^ (width - 1) ≤ n) → n < 10 ^ width → padded n width ≡ decimal n
decimal_padded n width small some first below =
    let places : width - 1 + 1 ≡ width = omega arith in
    let front : (width - 1 ≡ 0) ⊎ (10 ^ (width - 1) ≤ n) = elim first [ inl one ↦ inl (omega arith) | inr long ↦ inr long ] in
    let below' : n < 10 ^ (width - 1 + 1) = subst (λ m. n < 10 ^ m) (sym places) below in
    subst (λ m. padded n m ≡ decimal n) places (decimal_by_steps HasDigits one_digit more_digits n small (width - 1) front below')

-- The digits that are still to be written and those that stand are the digits of a value: at first none stand,
pub none_written : (digits : List ℕ) (value : ℕ) → padded value (length digits) ++ drop (length digits) digits ≡ padded value (length digits)
none_written digits value = rw (drop_all (length digits) digits (omega arith)) (append-nil (padded value (length digits)))

-- then one more does,
pub one_written : (digits : List ℕ) (value rest place before : ℕ) → place ≡ before + 1 → place ≤ length digits
    → padded rest place ++ drop place digits ≡ padded value (length digits)
    → padded (rest / 10) before ++ drop before (slice_set digits before (48 + rest % 10)) ≡ padded value (length (slice_set digits before (48 + rest % 10)))
one_written digits value rest place before step within so_far =
    let digit = 48 + rest % 10 in
    let here : before < length digits = omega arith in
    let behind : drop before (slice_set digits before digit) ≡ digit ∷ drop (before + 1) digits = drop-set digits before digit here in
    let long : length (slice_set digits before digit) ≡ length digits = length-set digits before digit in
    let front : padded rest place ≡ padded (rest / 10) before ++ digit ∷ [] = padded-more rest place before step in
    let turned : (padded (rest / 10) before ++ digit ∷ []) ++ drop (before + 1) digits ≡ padded value (length digits) =
    rw (sym front, sym step) so_far in
    rw (behind, long) (sym (append_assoc (padded (rest / 10) before) (digit ∷ []) (drop (before + 1) digits)) ∙ turned)

-- and at last all do
pub all_written : (digits : List ℕ) (value rest place : ℕ) → place ≤ 0 → padded rest place ++ drop place digits ≡ padded value (length digits)
    → digits ≡ padded value (length digits)
all_written digits value rest place none so_far =
    let zero_place : place ≡ 0 = omega arith in
    let turned : padded rest 0 ++ drop 0 digits ≡ padded value (length digits) = subst (λ n. padded rest n ++ drop n digits ≡ padded value (length digits)) zero_place so_far in
    rw (padded-none rest 0 refl) at turned

range_of_digit : (byte : ℕ) → is_digit byte ≡ true → IsInRange 48 57 byte
range_of_digit byte is = grind (arith, nat_tests)

digit_of_range : (byte : ℕ) → IsInRange 48 57 byte → is_digit byte ≡ true
digit_of_range byte is = grind (arith, nat_tests)

-- std's digits are these
digits_test : IsDigitsTest AreDigits
digits_test = record {
  empty = All-nil (λ byte. is_digit byte ≡ true);
  parts = λ c cs are. (range_of_digit c (All-head (λ byte. is_digit byte ≡ true) c cs are), All-tail (λ byte. is_digit byte ≡ true) c cs are);
  more = λ c cs is are. All-cons (λ byte. is_digit byte ≡ true) c cs (digit_of_range c is) are;
}

pub numerals : IsNumeralModel AreDigits (digits_value 10)
numerals = numerals_by_value AreDigits digits_test

pub digits_value-below : (part : List ℕ) → AreDigits part → digits_value 10 part < 10 ^ length part
digits_value-below part are = digits_value-lt 10 part (numerals.to part are)

-- the digits of a front are digits, and write a number below 10 to the power of 12
pub digits_begun : (part : List ℕ) (i number : ℕ) → length part ≤ 12 → i < length part → AreDigits (take i part) → number ≡ digits_value 10 (take i part)
    → number < 10 ^ 12
digits_begun part i number few here are is =
    omega (arith, is, digits_value_short numerals (take i part) 12 are (omega (arith, few, here, length-take-le i part (omega (arith, here)))))

-- a front that is one digit longer
pub one_digit_more : (part : List ℕ) (i number : ℕ) → i < length part → is_digit (get_or part i 0) ≡ true → AreDigits (take i part)
    → number ≡ digits_value 10 (take i part)
    → AreDigits (take (i + 1) part) × (10 * number + (get_or part i 0 - 48) ≡ digits_value 10 (take (i + 1) part))
one_digit_more part i number here digit are is = (
  subst AreDigits (sym (take_more part i 0 here)) (All-push (λ byte. is_digit byte ≡ true) (take i part) (get_or part i 0) are digit),
  omega (arith, is, digits_value_more 10 part i here, digit-digit_value (get_or part i 0) digit),
)

-- a byte that is no digit stands among no digits
pub no_digit : (part : List ℕ) (i : ℕ) → i < length part → is_digit (get_or part i 0) ≡ false → ¬ AreDigits part
no_digit part i here other are = false≢true (sym other ∙ All-get_or (λ byte. is_digit byte ≡ true) part i 0 here are)
