-- Fields of which the first names what they are spell a value, or there is a reason for which they spell none.
use Rattle.std.proofs.Common.{◌≡◌, ◌⊎◌, ℕ, List, [], ◌∷◌, sym, ◌∙◌, ap, subst, inl, inr}
use Rattle.text_fields.specs.NamedFields.{AreFaulty, AreSpelling, SpellBehind, Vocabulary}
use Rattle.text_fields.specs.declared.fields_fault.FieldsFault.{FieldsFault}
use Rattle.text_fields.specs.declared.fields_fault.FieldsFault.TheVariants.{Word, Shape, Number}
use Rattle.text_fields.proofs.NamedFieldLaws.{IsVocabulary, same_behind, spelled_behind, wrong_shape}
use Rattle.scenario_lines.proofs.Decisions.{Any, Decided, Spelled}
use Rattle.scenario_lines.proofs.KindsDecided.{filled_decided}

-- what fields do or are
abbrev pub SpellOrAreFaulty : {K V : Type 0} → Vocabulary K V → (V → Type 0) → List (List ℕ) → Type 0
SpellOrAreFaulty {V = V} words InRange fields = ((value : V) × AreSpelling words InRange fields value) ⊎ ((fault : FieldsFault) × AreFaulty words InRange fields fault)

-- what is told of names, and of the fields behind each
pub record AreDecided {K V : Type 0} (words : Vocabulary K V) (InRange : V → Type 0) : Type 0 where
  pub is : IsVocabulary words InRange
  pub names : (field : List ℕ) → Decided (Spelled words.name Any field)
  pub behind : (kind : K) (fields : List (List ℕ)) → Decided ((value : V) × SpellBehind words InRange kind fields value)

module _ {K V : Type 0} (words : Vocabulary K V) (InRange : V → Type 0) (decided : AreDecided words InRange) where
  -- what is spelled with the name of a kind before it is spelled behind it
  behind_name : (first : List ℕ) (others : List (List ℕ)) (kind : K) (value : V) → first ≡ words.name kind → AreSpelling words InRange (first ∷ others) value
      → SpellBehind words InRange kind others value
  behind_name first others kind value is spells =
      let same = same_behind first (words.name (words.kind value)) others (words.others value) spells.spelling in
      record { same_kind = decided.is.told (words.kind value) kind (sym same.0 ∙ is); in_range = spells.in_range; spelling = same.1 }

  named_or_faulty : (first : List ℕ) (others : List (List ℕ)) (kind : K) → first ≡ words.name kind → SpellOrAreFaulty words InRange (first ∷ others)
  named_or_faulty first others kind is = elim (filled_decided (words.count kind) others) [
    | inr unfilled ↦ inr (Shape, subst (λ (field : List ℕ). AreFaulty words InRange (field ∷ others) Shape) (sym is) (wrong_shape words InRange decided.is kind others unfilled))
    | inl filled ↦ elim (decided.behind kind others) [
      | inl found ↦ inl (
        found.0,
        subst (λ (field : List ℕ). AreSpelling words InRange (field ∷ others) found.0) (sym is) (spelled_behind words InRange kind others found.0 found.1),
      )
      | inr never ↦ inr (
        Number,
        (
          record { named = kind; behind = others; first = ap (λ (field : List ℕ). field ∷ others) is; filled = filled },
          λ value spells. never (value, behind_name first others kind value is spells),
        ),
      )
    ]
  ]

  pub spell_or_are_faulty : (fields : List (List ℕ)) → SpellOrAreFaulty words InRange fields
  spell_or_are_faulty [] = inr (Shape, (λ none. none, λ has. let same = has.first in cc))
  spell_or_are_faulty (first ∷ others) = elim (decided.names first) [
    | inr unknown ↦ inr (Word, λ kind same. unknown (kind, tt, same))
    | inl named ↦ named_or_faulty first others named.0 named.2
  ]
