-- Profile: a tag draws its random words from a list of 1 to 256 words of 16 bits.
use Rattle.std.specs.Prelude.{ℕ, ◌^◌, ◌<◌, ◌≤◌, List, length, All}

-- words that a tag may draw from
pub record IsDrawList (words : List ℕ) : Type 0 where
  pub some : 1 ≤ length words
  pub few : length words ≤ 256
  pub small : All (λ word. word < 2 ^ 16) words
