-- 6.3.2.11.1.1 Select: the mask is compared with the bits of a whole bank, from the place of the pointer on.
use Rattle.std.specs.Prelude.{◌≡◌, ℕ, nat_le, Bool, true, false, ◌&&◌, List, [], ◌∷◌, ◌++◌, length, drop}
use Rattle.std.specs.Bool.{beq}
use Rattle.bit_strings.specs.Words.{bits_of_words}

-- the list begins with the mask
abbrev pub begins_with : List Bool → List Bool → Bool
begins_with bits [] = true
begins_with [] (want ∷ mask) = false
begins_with (bit ∷ bits) (want ∷ mask) = beq bit want && begins_with bits mask

-- whether the mask stands in a bank of these words, from the bit on that the pointer names
abbrev pub mask_match : List ℕ → ℕ → List Bool → Bool
mask_match words pointer mask =
    nat_le pointer (length (bits_of_words words)) && begins_with (drop pointer (bits_of_words words)) mask

-- the same as a fact: the bank's bits are as many bits as the pointer says, the mask, and some rest. So an empty mask
-- stands at each place up to the bank's number of bits (profile), and no mask reaches past the bank
pub record MaskStandsAt (bits : List Bool) (pointer : ℕ) (mask : List Bool) : Type 0 where
  pub front : List Bool
  pub rest : List Bool
  pub place : length front ≡ pointer
  pub parts : bits ≡ front ++ mask ++ rest
