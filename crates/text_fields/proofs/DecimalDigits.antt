-- The digits of a number, and the number that a field spells.
use Rattle.std.proofs.Common.{◌≡◌, ◌<◌, ◌≤◌, ◌+◌, ◌-◌, ◌*◌, ◌^◌, ◌⊎◌, inl, inr, ℕ, zero, suc, List, [], ◌∷◌, length, take, get_or, arith, sym, ◌∙◌, ap, true, false}
use Rattle.std.proofs.lemmas.Bool.Decides.{nat_tests}
use Rattle.std.specs.Char.{digit_value, is_ascii_digit}
use Rattle.std.specs.Fmt.{decimal}
use Rattle.std.specs.Str.Parse.{AllDigits, digits_value}
use Rattle.std.proofs.lemmas.Fmt.{decimal_digit, first_decimal, decimal_is_IsNumeral, decimal-digits_value}
use Rattle.std.proofs.lemmas.Int.Digits.{digits_more, digits_value_more}
use Rattle.std.proofs.lemmas.List.{take_all}
use Rattle.std.proofs.lemmas.Str.{digit_value_digit}
use Rattle.std.proofs.lemmas.Str.Parse.{numerals_by_value, tells_digits, digit_at, digits_value-take-le}

-- a number begins with a digit other than 0, or is the one digit 0
pub decimal_starts : (n : ℕ) → n < 2 ^ 32
    → (decimal n ≡ 48 ∷ []) ⊎ ((48 < get_or (decimal n) 0 0) × (get_or (decimal n) 0 0 ≤ 57) × (0 < length (decimal n)))
decimal_starts zero small = inl (decimal_digit 0 (omega arith))
decimal_starts (suc m) small =
    let numeral = (decimal_is_IsNumeral (suc m) (omega arith)).0 in
    let digit = digit_at (decimal (suc m)) 0 numeral.1 numeral.0 in
    inr (first_decimal (suc m) (omega arith) (omega arith), omega (arith, digit), numeral.0)

-- the test of a digit
pub tested_digit : (byte : ℕ) → is_ascii_digit byte ≡ true → (48 ≤ byte) × (byte ≤ 57)
tested_digit byte is = grind (arith, nat_tests)

pub no_digit : (byte : ℕ) → is_ascii_digit byte ≡ false → 48 ≤ byte → byte ≤ 57 → ⊥
no_digit byte is least most = grind (arith, nat_tests)

-- each byte of a number is a digit
pub spelled_digit : (n : ℕ) (field : List ℕ) (i : ℕ) → n < 2 ^ 32 → field ≡ decimal n → i < length field → (48 ≤ get_or field i 0) × (get_or field i 0 ≤ 57)
spelled_digit n field i small spells within =
    let digit = digit_at (decimal n) i (decimal_is_IsNumeral n (omega arith)).0.1 (rw spells at within) in
    rw spells (omega (arith, digit), omega (arith, digit))

-- the front of a number is not greater
pub spelled_front : (n : ℕ) (field : List ℕ) (i : ℕ) → n < 2 ^ 32 → field ≡ decimal n → digits_value 10 (take i field) ≤ n
spelled_front n field i small spells =
    let front : digits_value 10 (take i (decimal n)) ≤ digits_value 10 (decimal n) = digits_value-take-le 10 (decimal n) i (omega arith) in
    rw spells (omega (arith, front, (decimal_is_IsNumeral n (omega arith)).1))

-- the whole of a number is the number
pub spelled_whole : (n : ℕ) (field : List ℕ) (i : ℕ) → n < 2 ^ 32 → field ≡ decimal n → length field ≤ i → digits_value 10 (take i field) ≡ n
spelled_whole n field i small spells behind =
    ap (digits_value 10) (take_all i field behind ∙ spells) ∙ (decimal_is_IsNumeral n (omega arith)).1

-- a field of digits that has no leading zeros is the spelling of its number
pub spelled_back : (field : List ℕ) (i : ℕ) → length field ≤ i → AllDigits 10 (take i field) → 0 < length field
    → (get_or field 0 0 ≡ 48 → length field ≡ 1) → digits_value 10 (take i field) < 2 ^ 32 → field ≡ decimal (digits_value 10 (take i field))
spelled_back field i behind digits some zeros small =
    let whole = take_all i field behind in
    rw whole (sym (decimal-digits_value (numerals_by_value _ tells_digits) field (rw whole at digits) some zeros (omega (arith, rw whole at small))))

-- one digit more
pub digit_more : (field : List ℕ) (i number : ℕ) → i < length field → 48 ≤ get_or field i 0 → get_or field i 0 ≤ 57
    → AllDigits 10 (take i field) → number ≡ digits_value 10 (take i field)
    → AllDigits 10 (take (i + 1) field) × (10 * number + (get_or field i 0 - 48) ≡ digits_value 10 (take (i + 1) field))
digit_more field i number within least most digits value =
    let digit : digit_value (get_or field i 0) + 48 ≡ get_or field i 0 = digit_value_digit (get_or field i 0) (least, most) in (
      digits_more 10 field i within digits (omega (arith, digit)),
      omega (arith, digit, value, digits_value_more 10 field i within),
    )

pub ruleset one_digit = (decimal_digit)
