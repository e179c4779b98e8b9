-- The number is the sum of the bits' digits, each times its place value.
use Rattle.std.proofs.Common.{◌≡◌, ◌+◌, ◌*◌, Bool, true, false, List, [], ◌∷◌, length, get_or, arith, refl}
use Rattle.bit_strings.specs.NumbersInBits.{digit_of, value_of}
use Rattle.line_code.proofs.encoder.number_of.Goals as goal
use mir.Val.{bool_byte}

digit_is : (bit : Bool) → bool_byte bit ≡ digit_of bit
digit_is true = refl
digit_is false = refl

four : (bits : List Bool) → length bits ≡ 4
    → 8 * bool_byte (get_or bits 0 false) + 4 * bool_byte (get_or bits 1 false) + 2 * bool_byte (get_or bits 2 false) + bool_byte (get_or bits 3 false) ≡ value_of bits
four [] long = absurd (omega (arith, long))
four (a ∷ []) long = absurd (omega (arith, long))
four (a ∷ b ∷ []) long = absurd (omega (arith, long))
four (a ∷ b ∷ c ∷ []) long = absurd (omega (arith, long))
four (a ∷ b ∷ c ∷ d ∷ []) long = omega (arith, digit_is a, digit_is b, digit_is c, digit_is d)
four (a ∷ b ∷ c ∷ d ∷ e ∷ bits) long = absurd (omega (arith, long))

pub returns : goal.returns
returns g = rw (g.from.ensures, g.from-2.ensures, g.from-3.ensures, g.from-4.ensures) (four g.args.bits.now g.told-bits)
