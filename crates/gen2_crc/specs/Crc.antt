-- 6.3.1.5 Cyclic-redundancy check and Annex F: a check number is what long division of the whole message
-- leaves. Polynomials are lists of coefficients, each 0 or 1, highest power first.
use Rattle.std.specs.Prelude.{◌≡◌, ℕ, zero, suc, Bool, true, false, not, List, [], ◌∷◌, ◌++◌, length, map, replicate}
use Rattle.bit_strings.specs.NumbersInBits.{value_of}

-- the difference of two coefficients, which has no carry
abbrev pub differ : Bool → Bool → Bool
differ false b = b
differ true b = not b

-- a polynomial is taken off at the front of a dividend; what stands behind it stays
abbrev pub minus : List Bool → List Bool → List Bool
minus [] divisor = []
minus (x ∷ dividend) [] = x ∷ dividend
minus (x ∷ dividend) (y ∷ divisor) = differ x y ∷ minus dividend divisor

-- long division, so many steps: where the leading coefficient is 1 the divisor, whose own leading coefficient is 1
-- and whose others are these, is taken off; the leading coefficient is then 0, and is dropped
unfoldable pub divide : ℕ → List Bool → List Bool → List Bool
divide zero others dividend = dividend
divide (suc steps) others [] = []
divide (suc steps) others (true ∷ dividend) = divide steps others (minus dividend others)
divide (suc steps) others (false ∷ dividend) = divide steps others dividend

-- what is left of a message followed by as many zeros as the preset is long, the first bits inverted where the
-- preset has a 1, after division by the polynomial with these coefficients behind its leading 1
abbrev pub remainder_of : List Bool → List Bool → List Bool → List Bool
remainder_of preset others message = divide (length message) others (minus (message ++ replicate (length preset) false) preset)

-- x^5 + x^3 + 1, preset 01001
abbrev pub others5 : List Bool
others5 = false ∷ true ∷ false ∷ false ∷ true ∷ []

-- what stands in the register before the first bit of a message
abbrev pub preset5 : List Bool
preset5 = false ∷ true ∷ false ∷ false ∷ true ∷ []

-- x^16 + x^12 + x^5 + 1, preset FFFFh
abbrev pub others16 : List Bool
others16 =
    false ∷ false ∷ false ∷ true ∷ false ∷ false ∷ false ∷ false ∷ false ∷ false ∷ true ∷ false ∷ false ∷ false ∷ false ∷ true ∷ []

-- what stands in the register before the first bit of a message
abbrev pub preset16 : List Bool
preset16 = replicate 16 true

-- the CRC-5 of a message is the remainder as it is
unfoldable pub crc5_of : List Bool → List Bool
crc5_of message = remainder_of preset5 others5 message

-- the register after a message, in the words of Annex F: the remainder
unfoldable pub register_of : List Bool → List Bool
register_of message = remainder_of preset16 others16 message

-- the CRC-16 of a message is the complement of the remainder
unfoldable pub crc16_of : List Bool → List Bool
crc16_of message = map not (register_of message)

-- what the register holds after a message and its CRC-16: 1D0Fh
abbrev pub residue : List Bool
residue =
    false ∷ false ∷ false ∷ true ∷ true ∷ true ∷ false ∷ true ∷ false ∷ false ∷ false ∷ false ∷ true ∷ true ∷ true ∷ true ∷ []

-- a number stands for a list of bits: it is the remainder of that message
pub record RegisterStandsFor (register : ℕ) (bits : List Bool) : Type 0 where
  pub is_remainder : register ≡ value_of (register_of bits)
