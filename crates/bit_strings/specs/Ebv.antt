-- Annex A: an extensible bit vector is a list of blocks of eight bits, each an
-- extension bit and seven bits of data. Profile: only the shortest spelling, of at most four blocks, is accepted.
use Rattle.std.specs.Prelude.{◌≡◌, ◌≢◌, ℕ, ◌+◌, ◌*◌, ◌^◌, ◌/◌, ◌≤◌, Bool, true, false, List, [], ◌∷◌, ◌++◌, length, take, All, Some, slice_get, nat_lt, if◌then◌else◌}
use Rattle.bit_strings.specs.NumbersInBits.{value_of, field_of}

-- the number that the blocks' data are as digits to the base 128, most significant first
abbrev pub number_of_digits : List (List Bool) → ℕ
number_of_digits [] = 0
number_of_digits (digit ∷ digits) = value_of digit * 128 ^ length digits + number_of_digits digits

-- the blocks of these digits: the extension bit is 1 in all but the last
abbrev pub blocks_of : List (List Bool) → List Bool
blocks_of [] = []
blocks_of (digit ∷ []) = false ∷ digit
blocks_of (digit ∷ next ∷ digits) = true ∷ digit ++ blocks_of (next ∷ digits)

-- there is a digit, and the first is not 0 unless it is the only one
abbrev pub IsShortest : List (List Bool) → Type 0
IsShortest [] = ⊥
IsShortest (digit ∷ []) = Unit {0}
IsShortest (digit ∷ next ∷ digits) = value_of digit ≢ 0

-- the bits are the extensible bit vector of the number
pub record IsEbv (number : ℕ) (bits : List Bool) : Type 0 where
  pub digits : List (List Bool)
  pub sevens : All (λ digit. length digit ≡ 7) digits
  pub few : length digits ≤ 4
  pub shortest : IsShortest digits
  pub value : number ≡ number_of_digits digits
  pub spelled : bits ≡ blocks_of digits

-- the bits begin with a first block that says only that another follows: its extension bit is 1 and its digit is 0
abbrev pub BeginsWithNothing : List Bool → Type 0
BeginsWithNothing bits = take 8 bits ≡ true ∷ false ∷ false ∷ false ∷ false ∷ false ∷ false ∷ false ∷ []

-- the first four blocks are begun, each has the extension bit 1, and the first is not one that says nothing
pub record IsTooLong (bits : List Bool) : Type 0 where
  pub first : slice_get bits 0 ≡ Some true
  pub second : slice_get bits 8 ≡ Some true
  pub third : slice_get bits 16 ≡ Some true
  pub fourth : slice_get bits 24 ≡ Some true
  pub says : ¬ BeginsWithNothing bits

-- the bits end inside an extensible bit vector: with some more, they are one
pub record IsCutEbv (bits : List Bool) : Type 0 where
  pub number : ℕ
  pub more : List Bool
  pub some_more : more ≢ []
  pub whole : IsEbv number (bits ++ more)

-- the extensible bit vector of a number below 2 ^ 28
abbrev pub ebv_of : ℕ → List Bool
ebv_of number =
    (if nat_lt number (128 ^ 1) then blocks_of (field_of number 7 ∷ [])
    else if nat_lt number (128 ^ 2) then blocks_of (field_of (number / 128) 7 ∷ field_of number 7 ∷ [])
    else if nat_lt number (128 ^ 3) then blocks_of (field_of (number / 128 ^ 2) 7 ∷ field_of (number / 128) 7 ∷ field_of number 7 ∷ [])
    else blocks_of (field_of (number / 128 ^ 3) 7 ∷ field_of (number / 128 ^ 2) 7 ∷ field_of (number / 128) 7 ∷ field_of number 7 ∷ []))
