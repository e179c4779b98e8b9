-- So many fields are left as are still wanted.
use Rattle.std.proofs.Common.{◌≡◌, ◌+◌, ◌<◌, ℕ, zero, suc, List, ◌∷◌, arith}
use Rattle.text_fields.specs.NamedFields.{AreFilled}
use Rattle.text_fields.proofs.FilledFields.{Filled, one_less, one_more, some_field}

-- of so many fields some were read, and all are so many and filled exactly where those that are left are as many as are still wanted, and filled
pub record StillWanted (read count : ℕ) (fields left : List (List ℕ)) : Type 0 where
  pub wanted : ℕ
  pub sum : read + wanted ≡ count
  pub to : AreFilled count fields → AreFilled wanted left
  pub from : AreFilled wanted left → AreFilled count fields

-- a field that is wanted isn't there, or is empty
pub stuck : (read count : ℕ) (fields left : List (List ℕ)) → StillWanted read count fields left → read < count
    → ((field : List ℕ) (rest : List (List ℕ)) → left ≡ field ∷ rest → ¬ Filled field) → ¬ AreFilled count fields
stuck read count fields left still less wanting are = by still.wanted still.sum (still.to are)
  where
    by : (wanted : ℕ) → read + wanted ≡ count → AreFilled wanted left → ⊥
    by zero sum are = absurd (omega (arith, sum, less))
    by (suc wanted) sum are = some_field wanted left are (λ field rest cut filled more. wanting field rest cut filled)

-- one field more is there
pub one_read : (read count : ℕ) (fields left : List (List ℕ)) (field : List ℕ) → StillWanted read count fields (field ∷ left) → read < count → Filled field
    → StillWanted (read + 1) count fields left
one_read read count fields left field still less filled = by still.wanted still.sum still.to still.from
  where
    by : (wanted : ℕ) → read + wanted ≡ count → (AreFilled count fields → AreFilled wanted (field ∷ left)) → (AreFilled wanted (field ∷ left) → AreFilled count fields)
        → StillWanted (read + 1) count fields left
    by zero sum to from = absurd (omega (arith, sum, less))
    by (suc rest) sum to from = record {
      wanted = rest;
      sum = omega (arith, sum);
      to = λ are. (one_less rest field left (to are)).1;
      from = λ are. from (one_more rest field left filled are);
    }
