-- Upper-case hexadecimal digits are ASCII, and words are written in them.
use Rattle.std.proofs.Common.{◌≡◌, ◌<◌, ◌^◌, ℕ, zero, suc, false, ◌==◌, List, [], ◌∷◌, length, slice_index, arith, lit<, refl}
use Rattle.std.specs.List.{AllPass, flat_map}
use Rattle.std.proofs.lemmas.Bool.Decides.{nat_tests}
use Rattle.std.proofs.lemmas.List.Elements.{All-from_get_or, All-head, All-tail}
use Rattle.text_fields.specs.Hexadecimal.{hex_word, hex_words}
use Rattle.text_fields.specs.WordLists.{is_upper_hex_digit}
use Rattle.text_fields.proofs.WordDigits.{IsDigit, digits_pass}

digit_below : (digit : ℕ) → IsDigit digit → digit < 128
digit_below digit is = grind (arith, nat_tests)

pub digits_ascii : (digits : List ℕ) → AllPass is_upper_hex_digit digits → (i : ℕ) → slice_index digits i < 128
digits_ascii [] are i = lit< tt
digits_ascii (digit ∷ digits) are zero = digit_below digit (All-head IsDigit digit digits are)
digits_ascii (digit ∷ digits) are (suc i) = digits_ascii digits (All-tail IsDigit digit digits are) i

-- the digits of words that fit 16 bits
pub words_pass : (words : List ℕ) → ((i : ℕ) → slice_index words i < 2 ^ 16) → AllPass is_upper_hex_digit (flat_map hex_word words)
words_pass words fit = digits_pass words (All-from_get_or (λ word. word < 2 ^ 16) words 0 (λ i within. fit i))

-- the spelling of some words is their digits
pub words_filled : (words : List ℕ) → (length words == 0) ≡ false → hex_words words ≡ flat_map hex_word words
words_filled [] filled = absurd (cc)
words_filled (word ∷ words) filled = refl
