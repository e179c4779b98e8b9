-- What reads take from a source and writes add to a sink, where they tell it, and what their counts of failures say. Profile.
use Rattle.std.specs.Prelude.{◌≡◌, ℕ, ◌+◌, ◌≤◌, min, List, [], ◌++◌, Option, IfSome}
use Rattle.std.specs.Option.{option_map}

-- These bytes were taken from the front of what was left, where the source tells it. Profile.
abbrev pub TakesBytes : Option (List ℕ) → Option (List ℕ) → List ℕ → Type 0
TakesBytes old new bytes = old ≡ option_map (λ rest. bytes ++ rest) new

-- These bytes were added behind what was written, where the sink tells it. Profile.
abbrev pub Adds : Option (List ℕ) → Option (List ℕ) → List ℕ → Type 0
Adds old new bytes = new ≡ option_map (λ written. written ++ bytes) old

-- Nothing is left, where the source tells it. Profile.
abbrev pub AtEnd : Option (List ℕ) → Type 0
AtEnd left = IfSome left (λ rest. rest ≡ [])

-- The last value of a 64-bit count, where each count stays. Profile.
abbrev pub last_count : ℕ
last_count = 18446744073709551615

-- A count after one more. Profile.
abbrev pub one_more : ℕ → ℕ
one_more count = min (count + 1) last_count

-- The count of failures is larger than before, or it stands at its last value. Profile.
pub record FaultsRose (old new : ℕ) : Type 0 where
  pub no_less : old ≤ new
  pub larger_or_last : old ≡ new → new ≡ last_count
