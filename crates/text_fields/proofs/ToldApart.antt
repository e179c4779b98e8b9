-- Two values are not spelled alike.
use Rattle.std.proofs.Common.{◌≡◌, ◌≢◌, ◌<◌, ◌^◌, ℕ, Bool, List, [], ◌∷◌, map, arith, ap, sym, ◌∙◌, refl}
use Rattle.std.specs.Prelude.{All}
use Rattle.std.specs.List.{flat_map}
use Rattle.std.specs.Fmt.{decimal}
use Rattle.std.proofs.lemmas.Fmt.{decimal_injective}
use Rattle.text_fields.specs.Binary.{binary, binary_digit, bits_of_digits, hyphen, or_hyphen}
use Rattle.text_fields.specs.Hexadecimal.{hex_word, hex_words}
use Rattle.text_fields.specs.WordLists.{first_word, words_of_digits}
use Rattle.text_fields.proofs.BinaryLaws.{bits_of_digits-map, no_hyphen}
use Rattle.text_fields.proofs.WordDigits.{digits_no_hyphen, same_word, words_back}

pub decimal_told : (m n : ℕ) → m < 2 ^ 32 → n < 2 ^ 32 → decimal m ≡ decimal n → m ≡ n
decimal_told m n small small' same = decimal_injective m n (omega arith) (omega arith) same

-- the hyphen for an empty list is told from each list that is not the hyphen itself
or_hyphen_told : (one other : List ℕ) → one ≢ hyphen ∷ [] → other ≢ hyphen ∷ [] → or_hyphen one ≡ or_hyphen other → one ≡ other
or_hyphen_told [] [] _ _ same = refl
or_hyphen_told [] (byte ∷ bytes) _ not_alone same = absurd (not_alone (sym same))
or_hyphen_told (byte ∷ bytes) [] not_alone _ same = absurd (not_alone same)
or_hyphen_told (byte ∷ bytes) (byte' ∷ bytes') _ _ same = same

pub binary_told : (one other : List Bool) → binary one ≡ binary other → one ≡ other
binary_told one other same =
    let digits = or_hyphen_told (map binary_digit one) (map binary_digit other) (no_hyphen one) (no_hyphen other) same in
    sym (bits_of_digits-map one) ∙ ap bits_of_digits digits ∙ bits_of_digits-map other

pub hex_words_told : (one other : List ℕ) → All (λ word. word < 2 ^ 16) one → All (λ word. word < 2 ^ 16) other
    → hex_words one ≡ hex_words other → one ≡ other
hex_words_told one other small small' same =
    let digits = or_hyphen_told (flat_map hex_word one) (flat_map hex_word other) (digits_no_hyphen one) (digits_no_hyphen other) same in
    sym (words_back one small) ∙ ap words_of_digits digits ∙ words_back other small'

pub hex_word_told : (m n : ℕ) → m < 2 ^ 16 → n < 2 ^ 16 → hex_word m ≡ hex_word n → m ≡ n
hex_word_told m n small small' same = sym (same_word m small) ∙ ap first_word same ∙ same_word n small'
