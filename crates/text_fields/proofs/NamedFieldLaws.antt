-- Fields of which the first names what they are spell one value, or are faulty for one reason.
use Rattle.std.proofs.Common.{◌≡◌, ◌≢◌, ℕ, List, [], ◌∷◌, length, ap, refl, sym, ◌∙◌}
use Rattle.std.specs.Prelude.{All}
use Rattle.std.proofs.lemmas.List.Elements.{All-weaker}
use Rattle.text_fields.specs.Lines.{IsFieldText, Lacks, fields_of, line_with, space}
use Rattle.text_fields.proofs.LineLaws.{fields_come_back}
use Rattle.text_fields.specs.NamedFields.{AreFaulty, AreFilled, AreSpelling, HaveShape, NameNothing, SpellBehind, Vocabulary}
use Rattle.text_fields.specs.declared.fields_fault.FieldsFault.{FieldsFault}
use Rattle.text_fields.specs.declared.fields_fault.FieldsFault.TheVariants.{Word, Shape, Number}

-- what holds of a vocabulary: two kinds have two names, and a value has the fields that its kind wants
pub record IsVocabulary {K V : Type 0} (words : Vocabulary K V) (IsInRange : V → Type 0) : Type 0 where
  pub told : (one other : K) → words.name one ≡ words.name other → one ≡ other
  pub filled : (value : V) → IsInRange value → AreFilled (words.count (words.kind value)) (words.others value)

-- a first field that is a name, and none
named_or_none : {K V : Type 0} (words : Vocabulary K V) (fields : List (List ℕ)) (kind : K) (others : List (List ℕ)) → fields ≡ words.name kind ∷ others
    → ¬ NameNothing words fields
named_or_none words fields kind others is none = (rw is at none) kind refl

-- ... and behind it what stands there
pub same_behind : (first first' : List ℕ) (others others' : List (List ℕ)) → first ∷ others ≡ first' ∷ others' → (first ≡ first') × (others ≡ others')
same_behind first first' others others' same = (cc, cc)

spelling_shape : {K V : Type 0} (words : Vocabulary K V) (IsInRange : V → Type 0) → IsVocabulary words IsInRange
    → (fields : List (List ℕ)) (value : V) → AreSpelling words IsInRange fields value → HaveShape words fields
spelling_shape words IsInRange is fields value spells = record {
  named = words.kind value;
  behind = words.others value;
  first = spells.spelling;
  filled = is.filled value spells.in_range;
}

pub spelling_is_not_faulty : {K V : Type 0} (words : Vocabulary K V) (IsInRange : V → Type 0) → IsVocabulary words IsInRange
    → (fields : List (List ℕ)) (value : V) (fault : FieldsFault) → AreSpelling words IsInRange fields value → ¬ AreFaulty words IsInRange fields fault
spelling_is_not_faulty words IsInRange is fields value Word spells faulty =
    named_or_none words fields (words.kind value) (words.others value) spells.spelling faulty
spelling_is_not_faulty words IsInRange is fields value Shape spells faulty = faulty.1 (spelling_shape words IsInRange is fields value spells)
spelling_is_not_faulty words IsInRange is fields value Number spells faulty = faulty.1 value spells

pub one_fault : {K V : Type 0} (words : Vocabulary K V) (IsInRange : V → Type 0) (fields : List (List ℕ)) (one other : FieldsFault)
    → AreFaulty words IsInRange fields one → AreFaulty words IsInRange fields other → one ≡ other
one_fault words IsInRange fields Word Word faulty faulty' = refl
one_fault words IsInRange fields Word Shape faulty faulty' = absurd (faulty'.0 faulty)
one_fault words IsInRange fields Word Number faulty faulty' =
    absurd (named_or_none words fields faulty'.0.named faulty'.0.behind faulty'.0.first faulty)
one_fault words IsInRange fields Shape Word faulty faulty' = absurd (faulty.0 faulty')
one_fault words IsInRange fields Shape Shape faulty faulty' = refl
one_fault words IsInRange fields Shape Number faulty faulty' = absurd (faulty.1 faulty'.0)
one_fault words IsInRange fields Number Word faulty faulty' =
    absurd (named_or_none words fields faulty.0.named faulty.0.behind faulty.0.first faulty')
one_fault words IsInRange fields Number Shape faulty faulty' = absurd (faulty'.1 faulty.0)
one_fault words IsInRange fields Number Number faulty faulty' = refl

-- what the fields behind a name spell, they spell with the name before them
pub spelled_behind : {K V : Type 0} (words : Vocabulary K V) (IsInRange : V → Type 0) (kind : K) (behind : List (List ℕ)) (value : V)
    → SpellBehind words IsInRange kind behind value → AreSpelling words IsInRange (words.name kind ∷ behind) value
spelled_behind words IsInRange kind behind value spells = record {
  in_range = spells.in_range;
  spelling = ap (λ (k : _). words.name k ∷ behind) (sym spells.same_kind)
      ∙ ap (λ (others : List (List ℕ)). words.name (words.kind value) ∷ others) spells.spelling;
}

-- fields whose first is the name of this kind have its shape, or none
pub wrong_shape : {K V : Type 0} (words : Vocabulary K V) (IsInRange : V → Type 0) → IsVocabulary words IsInRange
    → (kind : K) (behind : List (List ℕ)) → (¬ AreFilled (words.count kind) behind) → AreFaulty words IsInRange (words.name kind ∷ behind) Shape
wrong_shape words IsInRange is kind behind wrong = (
  named_or_none words (words.name kind ∷ behind) kind behind refl,
  λ has.
      let same = same_behind (words.name kind) (words.name has.named) behind has.behind has.first in
      wrong (rw (is.told kind has.named same.0, same.1) has.filled),
)

-- fields that may stand as such are not empty
pub texts_filled : (fields : List (List ℕ)) (count : ℕ) → All IsFieldText fields → count ≡ length fields → AreFilled count fields
texts_filled fields count texts number = record {
  number = sym number;
  filled = All-weaker IsFieldText (λ field. field ≢ []) (λ field is. is.filled) fields texts;
}

-- the fields of a line that is made of them
pub texts_come_back : (first : List ℕ) (others : List (List ℕ)) → All IsFieldText (first ∷ others) → fields_of (line_with (first ∷ others)) ≡ first ∷ others
texts_come_back first others texts =
    fields_come_back (first ∷ others) (λ none. cc) (All-weaker IsFieldText (Lacks space) (λ field is. is.no_space) (first ∷ others) texts)
