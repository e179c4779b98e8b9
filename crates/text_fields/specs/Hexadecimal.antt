-- Profile: a word is spelled as four upper-case hexadecimal digits, the most significant first, a list
-- of words as those of its words without anything between them, and no words as a hyphen.
use Rattle.std.specs.Prelude.{◌≡◌, ◌<◌, ◌^◌, ℕ, ◌+◌, ◌/◌, ◌%◌, List, length, [], ◌∷◌, ◌++◌, nat_lt, if◌then◌else◌}
use Rattle.std.specs.List.{AllPass, flat_map}
use Rattle.std.specs.Result.{result_unwrap_or}
use Rattle.hex.specs.Hex.{decode_of, is_hex_digit}
use Rattle.text_fields.specs.Binary.{or_hyphen}

-- the digit of a number below 16
abbrev pub hex_digit : ℕ → ℕ
hex_digit n = if nat_lt n 10 then 48 + n else 55 + n

-- the two digits of a byte
abbrev pub hex_byte : ℕ → List ℕ
hex_byte n = hex_digit (n / 16) ∷ hex_digit (n % 16) ∷ []

-- the four digits of a word: those of its two bytes
abbrev pub hex_word : ℕ → List ℕ
hex_word n = hex_byte (n / 256) ++ hex_byte (n % 256)

-- the spelling of a list of words
abbrev pub hex_words : List ℕ → List ℕ
hex_words words = or_hyphen (flat_map hex_word words)

-- Profile: bytes that are read are spelled as two hexadecimal digits each, in either case, and there are
-- fewer than 2 ^ 32 of them.
pub record IsHexText (text : List ℕ) : Type 0 where
  pub digits : AllPass is_hex_digit text
  pub even : length text % 2 ≡ 0
  pub countable : length text / 2 < 2 ^ 32

-- the bytes that digits spell
abbrev pub bytes_of_hex : List ℕ → List ℕ
bytes_of_hex text = result_unwrap_or (decode_of text) []
