-- Fields by their places.
use Rattle.std.proofs.Common.{◌≡◌, ℕ, List, [], ◌∷◌, length, get_or, ap}
use Rattle.text_fields.specs.NamedFields.{AreFilled}
use Rattle.text_fields.proofs.FilledFields.{Filled, none_filled, one_more}

-- each of the fields is filled
abbrev pub EachFilled : List (List ℕ) → Type 0
EachFilled [] = Unit {0}
EachFilled (field ∷ fields) = Filled field × EachFilled fields

pub each_filled : (fields : List (List ℕ)) → EachFilled fields → AreFilled (length fields) fields
each_filled [] each = none_filled
each_filled (field ∷ fields) each = one_more (length fields) field fields each.0 (each_filled fields each.1)

-- the field at a place of two equal lists
pub field_at : (place : ℕ) (one other : List (List ℕ)) → one ≡ other → get_or one place [] ≡ get_or other place []
field_at place one other same = ap (λ (fields : List (List ℕ)). get_or fields place []) same
