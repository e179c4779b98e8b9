-- Profile: a family is a predicate on lists, as "is a stream of this code". A decoder takes a list item
-- by item, and refuses it at the first place after which no member of the family can follow.
use Rattle.std.specs.Prelude.{◌≡◌, ℕ, ◌+◌, ◌<◌, List, ◌++◌, length, take}

-- the list is the front of some member, or a whole member
abbrev pub Begins : {A : Type 0} → (List A → Type 0) → List A → Type 0
Begins {A} X items = (more : List A) × X (items ++ more)

-- the place of refusal: the items before it begin some member, and with the item there they begin none
pub record IsBadAt {A : Type 0} (X : List A → Type 0) (items : List A) (place : ℕ) : Type 0 where
  pub inside : place < length items
  pub begins : Begins X (take place items)
  pub stops : ¬ Begins X (take (place + 1) items)

-- all the items, count in number, begin some member and are no member
pub record IsShortAt {A : Type 0} (X : List A → Type 0) (items : List A) (count : ℕ) : Type 0 where
  pub whole : count ≡ length items
  pub begins : Begins X items
  pub no_member : ¬ X items
