-- Hexadecimal text of either case.
use Rattle.std.proofs.Common.{◌≡◌, ℕ, ◌*◌, ◌%◌, List, [], length, ap, ◌∙◌, sym, arith}
use Rattle.std.specs.Prelude.{Result, Ok}
use Rattle.std.specs.List.{AllPass}
use Rattle.std.specs.Result.{result_unwrap_or}
use Rattle.hex.specs.Hex.{decode_of, decode_sized, is_hex_digit}
use Rattle.hex.specs.declared.error.FromHexError.{FromHexError}
use Rattle.hex.proofs.HexLemmas.{decode_of-digits, decode_of-ok, decode_sized-twice}
use Rattle.text_fields.specs.Hexadecimal.{IsHexText, bytes_of_hex}

-- pairs of digits spell bytes
pub decode_of-hex : (text : List ℕ) → length text % 2 ≡ 0 → AllPass is_hex_digit text → decode_of text ≡ Ok (bytes_of_hex text)
decode_of-hex text even digits =
    let bytes = decode_of-digits text even digits in
    bytes.1 ∙ ap Ok (sym (ap (λ (r : Result (List ℕ) FromHexError). result_unwrap_or r []) bytes.1))

-- what spells bytes is pairs of digits, and spells no others
pub hex_from_ok : (text bytes : List ℕ) → decode_of text ≡ Ok bytes
    → AllPass is_hex_digit text × (length text ≡ 2 * length bytes) × (bytes_of_hex text ≡ bytes)
hex_from_ok text bytes spells =
    let parts = decode_of-ok text bytes spells in
    (parts.1, parts.2, ap (λ (r : Result (List ℕ) FromHexError). result_unwrap_or r []) spells)

-- the bytes are half as many as the digits
pub length-bytes_of_hex : (text : List ℕ) → length text % 2 ≡ 0 → AllPass is_hex_digit text → length text ≡ 2 * length (bytes_of_hex text)
length-bytes_of_hex text even digits = (hex_from_ok text (bytes_of_hex text) (decode_of-hex text even digits)).1

-- as many bytes as the digits spell are read from them
pub hex_read : (text : List ℕ) (room : ℕ) → IsHexText text → room ≡ length (bytes_of_hex text) → decode_sized text room ≡ Ok (bytes_of_hex text)
hex_read text room is fits =
    let twice : length text ≡ 2 * room = omega (arith, fits, length-bytes_of_hex text is.even is.digits) in
    decode_sized-twice text room twice ∙ decode_of-hex text is.even is.digits

pub ruleset text = (decode_of-hex, hex_from_ok, length-bytes_of_hex)
