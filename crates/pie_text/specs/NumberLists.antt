-- Profile: a list of numbers as the fields of a line.
use Rattle.std.specs.Prelude.{◌≡◌, ◌≢◌, ℕ, ◌≤◌, List, [], length, map, All}
use Rattle.std.specs.Fmt.{decimal}
use Rattle.pie_text.specs.declared.number_lists.NotNumbers.{NotNumbers}
use Rattle.pie_text.specs.declared.number_lists.NotNumbers.TheVariants.{Shape, Number}

-- the fields are from 1 to most_items, and none is empty
pub record AreFewFilled (most_items : ℕ) (fields : List (List ℕ)) : Type 0 where
  pub some : 1 ≤ length fields
  pub room : length fields ≤ most_items
  pub filled : All (λ field. field ≢ []) fields

-- the fields spell these numbers, which are from 1 to most_items numbers up to most
pub record SpellsNumbers (most_items most : ℕ) (fields : List (List ℕ)) (numbers : List ℕ) : Type 0 where
  pub spelling : fields ≡ map decimal numbers
  pub some : 1 ≤ length numbers
  pub room : length numbers ≤ most_items
  pub within : All (λ number. number ≤ most) numbers

-- the first reason for which the fields spell no such numbers
abbrev pub RefusesNumbers : NotNumbers → ℕ → ℕ → List (List ℕ) → Type 0
-- the fields are none or more than most_items, or one of them is empty
RefusesNumbers Shape most_items most fields = ¬ AreFewFilled most_items fields
-- they are there, and one of them is no number up to most
RefusesNumbers Number most_items most fields =
    AreFewFilled most_items fields × ((numbers : List ℕ) → All (λ number. number ≤ most) numbers → fields ≢ map decimal numbers)
