-- What fields are behind the name of a kind, and that so many fields are there.
use Rattle.std.proofs.Common.{◌≡◌, ℕ, zero, suc, List, [], ◌∷◌, refl, subst, inl, inr, arith}
use Rattle.text_fields.specs.NamedFields.{AreFilled, SpellBehind, Vocabulary}
use Rattle.text_fields.proofs.FilledFields.{none_filled, one_less, one_more}
use Rattle.scenario_lines.proofs.Decisions.{Decided}

-- no more fields
abbrev pub nothing : Unit {0} → List (List ℕ)
nothing none = []

-- one field, and those behind it
abbrev pub with : {V W : Type 0} → (V → List ℕ) → (W → List (List ℕ)) → V × W → List (List ℕ)
with one others value = one value.0 ∷ others value.1

abbrev pub Both : {V W : Type 0} → (V → Type 0) → (W → Type 0) → V × W → Type 0
Both May Might value = May value.0 × Might value.1

-- what fields are that spell a value behind the name of its kind, by what they are for each value
pub by_kind : {K V : Type 0} (words : Vocabulary K V) (InRange : V → Type 0) (Forms : K → List (List ℕ) → Type 0)
    → ((value : V) (fields : List (List ℕ)) → InRange value → fields ≡ words.others value → Forms (words.kind value) fields)
    → (kind : K) (fields : List (List ℕ)) → ((value : V) × SpellBehind words InRange kind fields value) → Forms kind fields
by_kind {K} words InRange Forms formed kind fields (value, is) =
    subst (λ (same : K). Forms same fields) is.same_kind (formed value fields is.in_range is.spelling)

-- the fields are so many, and none is empty
pub filled_decided : (count : ℕ) (fields : List (List ℕ)) → Decided (AreFilled count fields)
filled_decided zero [] = inl none_filled
filled_decided zero (field ∷ fields) = inr (λ are. let number = are.number in absurd (omega arith))
filled_decided (suc count) [] = inr (λ are. let number = are.number in absurd (omega arith))
filled_decided (suc count) ([] ∷ fields) = inr (λ are. (one_less count [] fields are).0 refl)
filled_decided (suc count) ((byte ∷ field) ∷ fields) = elim (filled_decided count fields) [
  | inl are ↦ inl (one_more count (byte ∷ field) fields (λ same. cc) are)
  | inr never ↦ inr (λ are. never (one_less count (byte ∷ field) fields are).1)
]
