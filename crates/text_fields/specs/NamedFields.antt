-- Profile: fields of which the first names what they are. The name says how many fields stand behind it.
use Rattle.std.specs.Prelude.{◌≡◌, ◌≢◌, ℕ, List, [], ◌∷◌, length, All}
use Rattle.text_fields.specs.declared.fields_fault.FieldsFault.{FieldsFault}
use Rattle.text_fields.specs.declared.fields_fault.FieldsFault.TheVariants.{Word, Shape, Number}

-- the fields are so many, and none is empty
pub record AreFilled (count : ℕ) (fields : List (List ℕ)) : Type 0 where
  pub number : length fields ≡ count
  pub filled : All (λ field. field ≢ []) fields

-- What may be spelled: kinds, each with its name and the number of fields behind that; and values, each with its kind and
-- these fields.
pub record Vocabulary (K V : Type 0) : Type 0 where
  pub name : K → List ℕ
  pub count : K → ℕ
  pub kind : V → K
  pub others : V → List (List ℕ)

-- the fields of a value: the name of its kind, and those behind that
abbrev pub spelled_fields : {K V : Type 0} → Vocabulary K V → V → List (List ℕ)
spelled_fields words value = words.name (words.kind value) ∷ words.others value

-- the fields spell the value, and its numbers are in their ranges
pub record AreSpelling {K V : Type 0} (words : Vocabulary K V) (IsInRange : V → Type 0) (fields : List (List ℕ)) (value : V) : Type 0 where
  pub in_range : IsInRange value
  pub spelling : fields ≡ spelled_fields words value

-- behind the name of this kind, the fields spell the value
pub record SpellBehind {K V : Type 0} (words : Vocabulary K V) (IsInRange : V → Type 0) (kind : K) (fields : List (List ℕ)) (value : V) : Type 0 where
  pub same_kind : words.kind value ≡ kind
  pub in_range : IsInRange value
  pub spelling : fields ≡ words.others value

-- a first field is there, and is none of the names
abbrev pub NameNothing : {K V : Type 0} → Vocabulary K V → List (List ℕ) → Type 0
NameNothing words [] = ⊥
NameNothing words (first ∷ others) = (kind : _) → first ≢ words.name kind

-- the first field is the name of a kind, and behind it stand as many fields as that has, none of them empty
pub record HaveShape {K V : Type 0} (words : Vocabulary K V) (fields : List (List ℕ)) : Type 0 where
  pub named : K
  pub behind : List (List ℕ)
  pub first : fields ≡ words.name named ∷ behind
  pub filled : AreFilled (words.count named) behind

-- the first reason for which named fields of a line spell no value
abbrev pub AreFaulty : {K V : Type 0} → Vocabulary K V → (V → Type 0) → List (List ℕ) → FieldsFault → Type 0
AreFaulty words IsInRange fields Word = NameNothing words fields
AreFaulty words IsInRange fields Shape = (¬ NameNothing words fields) × (¬ HaveShape words fields)
AreFaulty words IsInRange fields Number = HaveShape words fields × ((value : _) → ¬ AreSpelling words IsInRange fields value)
