-- Steps of a long division, and how it goes on from what came before.
use Rattle.std.proofs.Common.{◌≡◌, ◌<◌, ◌≤◌, Bool, true, false, List, [], ◌∷◌, ◌++◌, length, refl, sym, ◌∙◌, ap, arith}
use Rattle.gen2_crc.specs.Crc.{minus, remainder_of}
use Rattle.gen2_crc.specs.laws.Division.{remainder_of-none, left_of, length-one_bit, first-bit}

-- a step takes the divisor off where the leading coefficient is 1
pub left_of-true : (dividend others : List Bool) → left_of true dividend others ≡ minus dividend others
unfolding left_of
left_of-true dividend others = refl

-- and leaves the dividend where it is 0
pub left_of-false : (dividend others : List Bool) → left_of false dividend others ≡ dividend
unfolding left_of
left_of-false dividend others = refl

-- the division of what follows goes on from the remainder of what came before
pub remainder_of-append : (preset others front back : List Bool) → length others ≤ length preset → 0 < length preset → remainder_of preset others (front ++ back) ≡ remainder_of (remainder_of preset others front) others back
remainder_of-append preset others [] back small some = ap (λ (register : List Bool). remainder_of register others back) (sym (remainder_of-none preset others))
remainder_of-append preset others (bit ∷ front) back small some =
    let register : List Bool = remainder_of preset others (bit ∷ []) in
    let long : length register ≡ length preset = length-one_bit preset others bit in
    first-bit preset others bit (front ++ back) small some
    ∙ remainder_of-append register others front back (omega arith) (omega arith)
    ∙ ap (λ (r : List Bool). remainder_of r others back) (sym (first-bit preset others bit front small some))
