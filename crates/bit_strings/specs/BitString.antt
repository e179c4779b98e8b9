use Rattle.std.specs.Prelude.{ℕ, Bool, List}

-- the most items of a list that a decoder counts
abbrev pub most_counted : ℕ
most_counted = 4000000000

-- Profile: what a contract sees of a list of bits or levels. The capacity never changes after the list is made.
pub record BitString : Type 0 where
  pub items : List Bool
  pub capacity : ℕ
