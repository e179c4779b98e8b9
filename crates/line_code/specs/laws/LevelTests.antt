-- What tests of levels say.
use Rattle.std.proofs.Common.{◌≡◌, ◌≢◌, ◌⊎◌, inl, inr, Bool, true, false, not, refl}
use Rattle.std.proofs.lemmas.Bool.{both_ways}
use mathlib.Core.Bool.{beq}

pub differs : (a b : Bool) → not (beq a b) ≡ true → a ≢ b
differs true true e f = cc
differs true false e f = cc
differs false true e f = cc
differs false false e f = cc

pub agrees : (a b : Bool) → not (beq a b) ≡ false → a ≡ b
agrees true true e = refl
agrees true false e = cc
agrees false true e = cc
agrees false false e = refl

-- what holds at each of the two bits
pub each_bit : (P : Bool → Type 0) → P false → P true → (bit : Bool) → P bit
each_bit P at_false at_true true = at_true
each_bit P at_false at_true false = at_false

-- the bit of a whole block: 1 where it fits, else 0, which then fits
pub chosen : (zero_fits one_fits : Bool) → ((zero_fits ≡ false) × (one_fits ≡ true)) ⊎ (zero_fits ≡ true)
    → (P : Bool → Type 0) → (zero_fits ≡ true → P false) → (one_fits ≡ true → P true) → P one_fits
chosen zero_fits true either P at_false at_true = at_true refl
chosen zero_fits false (inl both) P at_false at_true = absurd (both_ways false refl both.1)
chosen zero_fits false (inr one) P at_false at_true = at_false one
