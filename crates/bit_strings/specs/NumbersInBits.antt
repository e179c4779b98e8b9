-- 6.3.1.4 Transmission order: a field of a packet is sent most significant bit first. So a list of bits is a
-- number to the base 2, its most significant digit first.
use Rattle.std.specs.Prelude.{ℕ, zero, suc, ◌+◌, ◌*◌, ◌/◌, ◌%◌, ◌^◌, ◌==◌, Bool, List, [], ◌∷◌, length, take, drop, if◌then◌else◌}

-- the digit that a bit is
abbrev pub digit_of : Bool → ℕ
digit_of bit = (if bit then 1 else 0)

-- the number that a list of bits is: the sum of each bit times two to the number of bits behind it
abbrev pub value_of : List Bool → ℕ
value_of [] = 0
value_of (bit ∷ bits) = digit_of bit * 2 ^ length bits + value_of bits

-- the last `width` digits of a number; that they are the one list of that many bits with that value, where the
-- value is below two to the width, is what the laws of fields say
unfoldable pub field_of : ℕ → ℕ → List Bool
field_of value zero = []
field_of value (suc places) = (value / 2 ^ places % 2 == 1) ∷ field_of value places

-- the bits of a list from a place on, as many as the width says
abbrev pub part_of : List Bool → ℕ → ℕ → List Bool
part_of bits from width = take width (drop from bits)
