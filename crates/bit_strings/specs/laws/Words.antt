-- The laws of the bits of words.
use Rattle.std.specs.Prelude.{◌≡◌, ℕ, ◌*◌, ◌^◌, ◌<◌, List, [], ◌∷◌, ◌++◌, length, All, refl}
use Rattle.std.proofs.Common.{sym, ◌∙◌, ap, arith, length-append}
use Rattle.std.proofs.lemmas.List.{flat_map_more}
use Rattle.std.proofs.lemmas.List.Elements.{All-head, All-tail}
use Rattle.bit_strings.specs.NumbersInBits.{field_of}
use Rattle.bit_strings.specs.laws.NumbersInBits.{length-field_of, field_of-same}
use Rattle.bit_strings.specs.laws.Ebv.{append_apart}
use Rattle.bit_strings.specs.Words.{bits_of_words}

pub length-bits_of_words : (words : List ℕ) → length (bits_of_words words) ≡ 16 * length words
length-bits_of_words [] = refl
length-bits_of_words (word ∷ words) = omega (arith, length-append (field_of word 16) (bits_of_words words), length-field_of word 16, length-bits_of_words words)

-- one more word at the end
pub bits_of_words-push : (words : List ℕ) (word : ℕ) → bits_of_words (words ++ word ∷ []) ≡ bits_of_words words ++ field_of word 16
bits_of_words-push words word = sym (flat_map_more (λ n. field_of n 16) [] words word)

-- the bits tell the words
pub bits_of_words-same : (xs ys : List ℕ) → All (λ word. word < 2 ^ 16) xs → All (λ word. word < 2 ^ 16) ys → bits_of_words xs ≡ bits_of_words ys → xs ≡ ys
bits_of_words-same [] [] p q same = refl
bits_of_words-same [] (y ∷ ys) p q same = absurd (omega (arith, ap length same, length-bits_of_words (y ∷ ys)))
bits_of_words-same (x ∷ xs) [] p q same = absurd (omega (arith, ap length same, length-bits_of_words (x ∷ xs)))
bits_of_words-same (x ∷ xs) (y ∷ ys) p q same =
    let found : (field_of x 16 ≡ field_of y 16) × (bits_of_words xs ≡ bits_of_words ys) = append_apart (field_of x 16) (field_of y 16) (bits_of_words xs) (bits_of_words ys) (length-field_of x 16 ∙ sym (length-field_of y 16)) same in
    let first : x ≡ y = field_of-same x y 16 (All-head (λ word. word < 2 ^ 16) x xs p) (All-head (λ word. word < 2 ^ 16) y ys q) found.0 in
    let others : xs ≡ ys = bits_of_words-same xs ys (All-tail (λ word. word < 2 ^ 16) x xs p) (All-tail (λ word. word < 2 ^ 16) y ys q) found.1 in
    cc
