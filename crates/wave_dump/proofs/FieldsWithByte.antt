-- Fields with a byte between them, one after another.
use Rattle.std.proofs.Common.{◌≡◌, ◌≢◌, ℕ, Bool, true, false, List, [], ◌∷◌, ◌++◌, map, refl, sym, ap, ◌∙◌, append_assoc}
use Rattle.std.specs.Prelude.{if◌then◌else◌}
use Rattle.std.specs.List.{join_with_byte}

-- nothing stands before the first field
abbrev pub IsFirst : {A : Type 0} → Bool → List A → Type 0
IsFirst true before = before ≡ []
IsFirst false before = before ≢ []

join-more : (byte : ℕ) (field : List ℕ) (before : List (List ℕ)) (last : List ℕ)
    → join_with_byte byte ((field ∷ before) ++ last ∷ []) ≡ join_with_byte byte (field ∷ before) ++ byte ∷ last
join-more byte field [] last = refl
join-more byte field (next ∷ before) last =
    ap (λ (rest : List ℕ). field ++ byte ∷ rest) (join-more byte next before last) ∙ sym (append_assoc field (byte ∷ join_with_byte byte (next ∷ before)) (byte ∷ last))

-- one field more
pub join-field : (byte : ℕ) (first : Bool) (before : List (List ℕ)) (last : List ℕ) → IsFirst first before
    → join_with_byte byte (before ++ last ∷ []) ≡ join_with_byte byte before ++ (if first then last else byte ∷ last)
join-field byte true [] last is = refl
join-field byte true (field ∷ before) last is = absurd (cc)
join-field byte false [] last is = absurd (is refl)
join-field byte false (field ∷ before) last is = join-more byte field before last

-- behind a field there is one before
pub is-not-first : {A : Type 0} (before : List A) (item : A) → IsFirst false (before ++ item ∷ [])
is-not-first [] item = λ none. absurd (cc)
is-not-first (first ∷ before) item = λ none. absurd (cc)

pub first-mapped : {A B : Type 0} (f : A → B) (first : Bool) (before : List A) → IsFirst first before → IsFirst first (map f before)
first-mapped f true before is = ap (map f) is
first-mapped f false [] is = absurd (is refl)
first-mapped f false (item ∷ before) is = λ none. absurd (cc)
