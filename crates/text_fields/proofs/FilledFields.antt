-- Lists of so many fields, none of them empty.
use Rattle.std.proofs.Common.{◌≡◌, ◌≢◌, ℕ, suc, List, [], ◌∷◌, ap, arith, refl, ◌∙◌}
use Rattle.std.proofs.lemmas.List.Elements.{All-cons, All-head, All-nil, All-tail}
use Rattle.text_fields.specs.NamedFields.{AreFilled}

abbrev pub Filled : List ℕ → Type 0
Filled field = field ≢ []

-- the fields behind the first, of which there is one less
pub one_less : (count : ℕ) (field : List ℕ) (fields : List (List ℕ)) → AreFilled (suc count) (field ∷ fields) → Filled field × AreFilled count fields
one_less count field fields are =
    let number = are.number in
    (All-head Filled field fields are.filled, record { number = omega arith; filled = All-tail Filled field fields are.filled })

pub one_more : (count : ℕ) (field : List ℕ) (fields : List (List ℕ)) → Filled field → AreFilled count fields → AreFilled (suc count) (field ∷ fields)
one_more count field fields filled are =
    let number = are.number in
    record { number = omega arith; filled = All-cons Filled field fields filled are.filled }

pub none_filled : AreFilled 0 []
none_filled = record { number = refl; filled = All-nil Filled }

pub nothing_more : (fields : List (List ℕ)) → AreFilled 0 fields → fields ≡ []
nothing_more [] are = refl
nothing_more (field ∷ fields) are = let number = are.number in absurd (omega arith)

-- a field is there, and behind it one less
pub some_field : (count : ℕ) (fields : List (List ℕ)) → AreFilled (suc count) fields
    → ((a : List ℕ) (rest : List (List ℕ)) → fields ≡ a ∷ rest → Filled a → AreFilled count rest → ⊥) → ⊥
some_field count [] are wanting = let number = are.number in absurd (omega arith)
some_field count (field ∷ fields) are wanting =
    let parts = one_less count field fields are in
    wanting field fields refl parts.0 parts.1

-- so many fields can't be wanting where they are there
pub have_1 : (fields : List (List ℕ)) → AreFilled 1 fields → ((a : List ℕ) → fields ≡ a ∷ [] → Filled a → ⊥) → ⊥
have_1 fields are wanting =
    some_field 0 fields are (λ a rest is ha more. wanting a (rw (nothing_more rest more) at is) ha)

pub have_2 : (fields : List (List ℕ)) → AreFilled 2 fields
    → ((a b : List ℕ) → fields ≡ a ∷ b ∷ [] → Filled a → Filled b → ⊥) → ⊥
have_2 fields are wanting =
    some_field 1 fields are (λ a rest is ha more. have_1 rest more (λ b are_these. wanting a b (is ∙ ap (λ (others : List (List ℕ)). a ∷ others) are_these) ha))

pub have_3 : (fields : List (List ℕ)) → AreFilled 3 fields
    → ((a b c : List ℕ) → fields ≡ a ∷ b ∷ c ∷ [] → Filled a → Filled b → Filled c → ⊥) → ⊥
have_3 fields are wanting =
    some_field 2 fields are (λ a rest is ha more. have_2 rest more (λ b c are_these. wanting a b c (is ∙ ap (λ (others : List (List ℕ)). a ∷ others) are_these) ha))

pub have_4 : (fields : List (List ℕ)) → AreFilled 4 fields
    → ((a b c d : List ℕ) → fields ≡ a ∷ b ∷ c ∷ d ∷ [] → Filled a → Filled b → Filled c → Filled d → ⊥) → ⊥
have_4 fields are wanting =
    some_field 3 fields are (λ a rest is ha more. have_3 rest more (λ b c d are_these. wanting a b c d (is ∙ ap (λ (others : List (List ℕ)). a ∷ others) are_these) ha))

pub have_5 : (fields : List (List ℕ)) → AreFilled 5 fields
    → ((a b c d e : List ℕ) → fields ≡ a ∷ b ∷ c ∷ d ∷ e ∷ [] → Filled a → Filled b → Filled c → Filled d → Filled e → ⊥) → ⊥
have_5 fields are wanting =
    some_field 4 fields are (λ a rest is ha more. have_4 rest more (λ b c d e are_these. wanting a b c d e (is ∙ ap (λ (others : List (List ℕ)). a ∷ others) are_these) ha))

pub have_6 : (fields : List (List ℕ)) → AreFilled 6 fields
    → ((a b c d e f : List ℕ) → fields ≡ a ∷ b ∷ c ∷ d ∷ e ∷ f ∷ [] → Filled a → Filled b → Filled c → Filled d → Filled e → Filled f → ⊥) → ⊥
have_6 fields are wanting =
    some_field 5 fields are (λ a rest is ha more. have_5 rest more (λ b c d e f are_these. wanting a b c d e f (is ∙ ap (λ (others : List (List ℕ)). a ∷ others) are_these) ha))

pub have_7 : (fields : List (List ℕ)) → AreFilled 7 fields
    → ((a b c d e f g : List ℕ) → fields ≡ a ∷ b ∷ c ∷ d ∷ e ∷ f ∷ g ∷ [] → Filled a → Filled b → Filled c → Filled d → Filled e → Filled f → Filled g → ⊥) → ⊥
have_7 fields are wanting =
    some_field 6 fields are (λ a rest is ha more. have_6 rest more (λ b c d e f g are_these. wanting a b c d e f g (is ∙ ap (λ (others : List (List ℕ)). a ∷ others) are_these) ha))
