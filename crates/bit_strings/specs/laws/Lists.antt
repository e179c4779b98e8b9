-- What stands at a place of two lists, one behind the other.
use Rattle.std.specs.Prelude.{◌≡◌, ℕ, zero, suc, ◌+◌, ◌<◌, Bool, List, [], ◌∷◌, ◌++◌, length, slice_get, Some, refl}
use Rattle.std.proofs.Common.{◌∙◌, ap, arith, zero-add}

-- within the first list
pub slice_get-append_left : (xs ys : List Bool) (i : ℕ) → i < length xs → slice_get (xs ++ ys) i ≡ slice_get xs i
slice_get-append_left [] ys i inside = absurd (omega arith)
slice_get-append_left (x ∷ xs) ys zero inside = refl
slice_get-append_left (x ∷ xs) ys (suc i) inside = slice_get-append_left xs ys i (omega arith)

-- behind the first list
pub slice_get-append_right : (xs ys : List Bool) (n i : ℕ) → i ≡ length xs + n → slice_get (xs ++ ys) i ≡ slice_get ys n
slice_get-append_right [] ys n i place = ap (λ k. slice_get ys k) (place ∙ zero-add n)
slice_get-append_right (x ∷ xs) ys n zero place = absurd (omega arith)
slice_get-append_right (x ∷ xs) ys n (suc i) place = slice_get-append_right xs ys n i (omega arith)

-- what stands in a list stands there too where more follows
pub slice_get-front : (xs ys : List Bool) (i : ℕ) (bit : Bool) → slice_get xs i ≡ Some bit → slice_get (xs ++ ys) i ≡ Some bit
slice_get-front [] ys i bit here = cc
slice_get-front (x ∷ xs) ys zero bit here = here
slice_get-front (x ∷ xs) ys (suc i) bit here = slice_get-front xs ys i bit here

pub slice_get-inside : (xs : List Bool) (i : ℕ) (bit : Bool) → slice_get xs i ≡ Some bit → i < length xs
slice_get-inside [] i bit here = cc
slice_get-inside (x ∷ xs) zero bit here = omega arith
slice_get-inside (x ∷ xs) (suc i) bit here = omega (arith, slice_get-inside xs i bit here)
