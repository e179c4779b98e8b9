-- Profile: the words that upper-case hexadecimal digits spell, four digits a word.
use Rattle.std.specs.Prelude.{◌≡◌, ℕ, ◌+◌, ◌-◌, ◌*◌, ◌/◌, ◌<◌, ◌≤◌, ◌^◌, nat_le, Bool, ◌&&◌, ◌||◌, List, [], ◌∷◌, length, slice_index, All, if◌then◌else◌}
use Rattle.std.specs.List.{flat_map}
use Rattle.text_fields.specs.Hexadecimal.{hex_word}

-- whether a byte of a field is an upper-case hexadecimal digit
abbrev pub is_upper_hex_digit : ℕ → Bool
is_upper_hex_digit digit = nat_le 48 digit && nat_le digit 57 || nat_le 65 digit && nat_le digit 70

-- the number of such a digit, and 0 for each other byte
abbrev pub digit_number : ℕ → ℕ
digit_number digit =
    (if nat_le 48 digit && nat_le digit 57 then digit - 48
    else (if nat_le 65 digit && nat_le digit 70 then digit - 55 else 0))

-- the word that four upper-case hexadecimal digits spell
abbrev pub word_number : ℕ → ℕ → ℕ → ℕ → ℕ
word_number a b c d = ((digit_number a * 16 + digit_number b) * 16 + digit_number c) * 16 + digit_number d

-- the words of digits
abbrev pub words_of_digits : List ℕ → List ℕ
words_of_digits (a ∷ b ∷ c ∷ d ∷ digits) = word_number a b c d ∷ words_of_digits digits
words_of_digits digits = []

-- the first word of digits
abbrev pub first_word : List ℕ → ℕ
first_word digits = slice_index (words_of_digits digits) 0

-- the digits spell their words, and these are fewer than 2 ^ 32
pub record AreWordDigits (digits : List ℕ) : Type 0 where
  pub spelling : digits ≡ flat_map hex_word (words_of_digits digits)
  pub countable : length digits / 4 < 2 ^ 32

-- from least to most words of 16 bits
pub record IsWordList (least most : ℕ) (words : List ℕ) : Type 0 where
  pub some : least ≤ length words
  pub room : length words ≤ most
  pub small : All (λ word. word < 2 ^ 16) words
