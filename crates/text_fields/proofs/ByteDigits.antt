-- The digits of bytes, as the kit's `hex` writes them.
use Rattle.std.proofs.Common.{◌≡◌, ◌<◌, ◌^◌, ◌/◌, ◌%◌, ◌==◌, ℕ, suc, Bool, true, List, [], ◌∷◌, map, slice_index, arith, refl}
use Rattle.std.specs.Char.{to_ascii_uppercase}
use Rattle.std.specs.Int.{to_be_bytes, w16}
use Rattle.std.specs.List.{flat_map}
use Rattle.std.proofs.lemmas.Bool.{agree_below_at, eqb-true}
use Rattle.hex.specs.Hex.{IsBytes, encode_lower, encode_with, lower_digits}
use Rattle.text_fields.specs.Hexadecimal.{hex_byte, hex_digit, hex_word}

-- an upper-case digit is the lower-case one, changed
raised_digit : (n : ℕ) → n < 16 → to_ascii_uppercase (slice_index lower_digits n) ≡ hex_digit n
raised_digit n small =
    let same : ℕ → Bool = λ n. to_ascii_uppercase (slice_index lower_digits n) == hex_digit n in
    eqb-true (to_ascii_uppercase (slice_index lower_digits n)) (hex_digit n) (agree_below_at same (λ n. true) 16 n refl small)

-- what is written of bytes in lower-case digits, changed to upper case
pub upper_written : (bytes : List ℕ) → IsBytes bytes → map to_ascii_uppercase (encode_lower bytes) ≡ flat_map hex_byte bytes
unfolding encode_with
upper_written [] small = refl
upper_written (byte ∷ bytes) small =
    let fits : byte < 256 = small 0 in
    let high = raised_digit (byte / 16) (omega (arith, fits)) in
    let low = raised_digit (byte % 16) (omega arith) in
    rw (high, low, upper_written bytes (λ i. small (suc i))) refl

-- the bytes of words are written as the words
pub bytes_of_words : (words : List ℕ) → ((i : ℕ) → slice_index words i < 2 ^ 16)
    → flat_map hex_byte (flat_map (λ bytes. bytes) (map (to_be_bytes w16) words)) ≡ flat_map hex_word words
bytes_of_words [] small = refl
bytes_of_words (word ∷ words) small =
    let fits : word < 2 ^ 16 = small 0 in
    let high : word / 256 % 256 ≡ word / 256 = omega (arith, fits) in
    rw (high, bytes_of_words words (λ i. small (suc i))) refl
