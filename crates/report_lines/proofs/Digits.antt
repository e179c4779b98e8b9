-- How words are spelled.
use Rattle.std.proofs.Common.{◌≡◌, ℕ, List, [], ◌∷◌, ◌==◌, false, length, refl}
use Rattle.report_lines.specs.JsonLines.{digits_of}
use Rattle.text_fields.specs.Hexadecimal.{hex_words}

-- some words are spelled as their digits, without a hyphen
pub some_digits : (words : List ℕ) → (length words == 0) ≡ false → hex_words words ≡ digits_of words
some_digits [] some = absurd (cc)
some_digits (word ∷ words) some = refl
