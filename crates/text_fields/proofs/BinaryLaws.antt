-- Bits and their digits.
use Rattle.std.proofs.Common.{◌≡◌, ◌≢◌, ℕ, zero, suc, ◌<◌, Bool, true, false, List, [], ◌∷◌, get_or, slice_index, map, refl, ap, arith, ◌∙◌, sym, lit<}
use Rattle.std.specs.List.{AllPass}
use Rattle.std.proofs.lemmas.Bool.Decides.{nat_tests}
use Rattle.std.proofs.lemmas.List.Elements.{All-nil, All-cons, All-head, All-tail}
use Rattle.text_fields.specs.Binary.{binary, binary_digit, bit_of_digit, bits_of_digits, hyphen, is_binary_digit, or_hyphen}

-- the fact of `AllPass is_binary_digit`
abbrev IsDigit : ℕ → Type 0
IsDigit digit = is_binary_digit digit ≡ true

-- the digit of a digit's bit
digit_back : (digit : ℕ) → is_binary_digit digit ≡ true → binary_digit (bit_of_digit digit) ≡ digit
digit_back digit is = grind (arith, nat_tests)

pub bits_of_digits-map : (bits : List Bool) → bits_of_digits (map binary_digit bits) ≡ bits
bits_of_digits-map [] = refl
bits_of_digits-map (false ∷ bits) = rw (bits_of_digits-map bits) refl
bits_of_digits-map (true ∷ bits) = rw (bits_of_digits-map bits) refl

pub map-bits_of_digits : (digits : List ℕ) → AllPass is_binary_digit digits → map binary_digit (bits_of_digits digits) ≡ digits
map-bits_of_digits [] are = refl
map-bits_of_digits (digit ∷ digits) are =
    rw (digit_back digit (All-head IsDigit digit digits are), map-bits_of_digits digits (All-tail IsDigit digit digits are)) refl

pub AllPass-digits : (bits : List Bool) → AllPass is_binary_digit (map binary_digit bits)
AllPass-digits [] = All-nil IsDigit
AllPass-digits (false ∷ bits) = All-cons IsDigit (binary_digit false) (map binary_digit bits) refl (AllPass-digits bits)
AllPass-digits (true ∷ bits) = All-cons IsDigit (binary_digit true) (map binary_digit bits) refl (AllPass-digits bits)

-- no bits have the digits `-`
pub no_hyphen : (bits : List Bool) → map binary_digit bits ≢ hyphen ∷ []
no_hyphen [] e = cc
no_hyphen (false ∷ bits) e = let first = ap (λ (digits : List ℕ). get_or digits 0 0) e in omega arith
no_hyphen (true ∷ bits) e = let first = ap (λ (digits : List ℕ). get_or digits 0 0) e in omega arith

-- a field of digits spells their bits
pub spells_bits : (field digits : List ℕ) → AllPass is_binary_digit digits → field ≡ or_hyphen digits → field ≡ binary (bits_of_digits digits)
spells_bits field digits are e = e ∙ ap or_hyphen (sym (map-bits_of_digits digits are))

-- the digits of bits are ASCII
pub IsAscii-digits : (bits : List Bool) (i : ℕ) → slice_index (map binary_digit bits) i < 128
IsAscii-digits [] i = lit< tt
IsAscii-digits (false ∷ bits) zero = lit< tt
IsAscii-digits (true ∷ bits) zero = lit< tt
IsAscii-digits (bit ∷ bits) (suc i) = IsAscii-digits bits i
