-- What stands at a place of a list to which one item was added: the item at its end, and what stood there at any other place.
use Rattle.std.proofs.Common.{◌≡◌, ◌≢◌, ℕ, zero, suc, List, [], ◌∷◌, ◌++◌, length, Some, refl, ap}
use Rattle.std.specs.Prelude.{slice_get}

pub slice_get-last : {A : Type 0} (items : List A) (last : A) → slice_get (items ++ last ∷ []) (length items) ≡ Some last
slice_get-last [] last = refl
slice_get-last (item ∷ items) last = slice_get-last items last

pub slice_get-other : {A : Type 0} (items : List A) (last : A) (at : ℕ) → at ≢ length items → slice_get (items ++ last ∷ []) at ≡ slice_get items at
slice_get-other [] last zero other = absurd (other refl)
slice_get-other [] last (suc at) other = refl
slice_get-other (item ∷ items) last zero other = refl
slice_get-other (item ∷ items) last (suc at) other = slice_get-other items last at (λ same. other (ap (λ n. suc n) same))
