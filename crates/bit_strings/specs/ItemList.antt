use Rattle.std.specs.Prelude.{ℕ, List}

-- Profile: what a contract sees of a list of items with a capacity, which never changes after the list is made.
pub record ItemList (Item : Type 0) : Type 0 where
  pub items : List Item
  pub capacity : ℕ
