-- 6.3.1.4 Transmission order: words are sent one behind the other, each most significant bit first.
use Rattle.std.specs.Prelude.{ℕ, Bool, List}
use Rattle.std.specs.List.{flat_map}
use Rattle.bit_strings.specs.NumbersInBits.{field_of}

-- the bits of a list of words, 16 a word
abbrev pub bits_of_words : List ℕ → List Bool
bits_of_words words = flat_map (λ word. field_of word 16) words
