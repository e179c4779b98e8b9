-- Sets of tags by their numbers, as words of 64 bits.
use Rattle.std.proofs.Common.{◌≡◌, ℕ, ◌/◌, ◌%◌, ◌<◌, ◌≤◌, ◌==◌, ◌↔◌, true, List, Option, Some, None, get_or}
use Rattle.std.specs.Int.{bit_at}
use Rattle.std.specs.List.{list_any}
use Rattle.air_events.specs.TagNumbers.{most_tags}

-- the bit that words have for a number: 1 where it is in the set
abbrev pub bit_in_set : List ℕ → ℕ → ℕ
bit_in_set words number = bit_at (get_or words (number / 64) 0) (number % 64)

-- a number is in the set
abbrev pub IsIn : List ℕ → ℕ → Type 0
IsIn words number = bit_in_set words number ≡ 1

-- no number is in the set
abbrev pub HasNone : List ℕ → Type 0
HasNone words = (number : ℕ) → bit_in_set words number ≡ 0

-- exactly these numbers are in the set
abbrev pub IsSetOf : List ℕ → List ℕ → Type 0
IsSetOf words numbers = (number : ℕ) → IsIn words number ↔ (list_any (λ other. other == number) numbers ≡ true)

-- a word has a bit for each of the words: 0 exactly where that word is 0
abbrev pub IsFilled : ℕ → List ℕ → Type 0
IsFilled filled words = (at : ℕ) → at < 64 → (bit_at filled at ≡ 0) ↔ (get_or words at 0 ≡ 0)

-- the least place from one on at which a word has a 1, or none where it has no such place
abbrev pub IsNextOne : ℕ → ℕ → Option ℕ → Type 0
IsNextOne word from None = (bit : ℕ) → from ≤ bit → bit < 64 → bit_at word bit ≡ 0
IsNextOne word from (Some next) = (from ≤ next) × (next < 64) × (bit_at word next ≡ 1) × ((bit : ℕ) → from ≤ bit → bit < next → bit_at word bit ≡ 0)

-- the least number of a set from one on, or none where it has no such number
abbrev pub IsNextIn : List ℕ → ℕ → Option ℕ → Type 0
IsNextIn words from None = (number : ℕ) → from ≤ number → number < most_tags → bit_in_set words number ≡ 0
IsNextIn words from (Some next) = (from ≤ next) × (next < most_tags) × IsIn words next × ((number : ℕ) → from ≤ number → number < next → bit_in_set words number ≡ 0)
