-- What follows where each value is the first of its name.
use Rattle.std.proofs.Common.{◌≡◌, ℕ, Bool, true, false, cond, List, [], ◌∷◌, Option, Some, refl, sym, ◌∙◌, ap}
use Rattle.std.specs.Str.{bytes_eq}
use Rattle.std.proofs.lemmas.Slice.Eq.{bytes_eq-Decides}
use Rattle.wire_text.specs.NameLists.{EachFound, first_named}

-- a value at the head, or one behind it
head_or : {V : Type 0} (word : V → List ℕ) (name : List ℕ) (first value : V) (behind : Option V) (test : Bool) → bytes_eq (word first) name ≡ test
    → cond test (Some first) behind ≡ Some value → (behind ≡ Some value → word value ≡ name) → word value ≡ name
head_or word name first value behind true is found later =
    let same : first ≡ value = cc in sym (ap word same) ∙ (bytes_eq-Decides (word first) name).0 is
head_or word name first value behind false is found later = later found

-- what is found has the name
pub found_is : {V : Type 0} (word : V → List ℕ) (name : List ℕ) (values : List V) (value : V) → first_named word name values ≡ Some value → word value ≡ name
found_is word name [] value found = cc
found_is word name (first ∷ others) value found =
    head_or word name first value (first_named word name others) (bytes_eq (word first) name) refl found (found_is word name others value)

-- two values are not named alike
pub told : {V : Type 0} (word : V → List ℕ) (values : List V) → EachFound word values → (one other : V) → word one ≡ word other → one ≡ other
told word values finds one other same =
    let found : Some one ≡ Some other = sym (finds one) ∙ ap (λ (name : List ℕ). first_named word name values) same ∙ finds other in
    cc
