-- Profile: bits are spelled as the digits 0 and 1, the first bit first, and no bits as a hyphen.
use Rattle.std.specs.Prelude.{ℕ, Bool, true, false, ◌==◌, ◌||◌, List, [], ◌∷◌, map}

-- what stands in a field for a list without items
abbrev pub hyphen : ℕ
hyphen = 45

-- a list's spelling, or a hyphen where that is empty
abbrev pub or_hyphen : List ℕ → List ℕ
or_hyphen [] = hyphen ∷ []
or_hyphen (byte ∷ bytes) = byte ∷ bytes

-- the digit that spells a bit in a field
abbrev pub binary_digit : Bool → ℕ
binary_digit false = 48
binary_digit true = 49

-- the spelling of a list of bits
abbrev pub binary : List Bool → List ℕ
binary bits = or_hyphen (map binary_digit bits)

-- whether a byte is one of the two digits
abbrev pub is_binary_digit : ℕ → Bool
is_binary_digit digit = digit == 48 || digit == 49

-- the bit of a digit
abbrev pub bit_of_digit : ℕ → Bool
bit_of_digit digit = digit == 49

-- the bits of digits
abbrev pub bits_of_digits : List ℕ → List Bool
bits_of_digits digits = map bit_of_digit digits
