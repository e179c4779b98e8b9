-- Lists that have one more item at their end.
use Rattle.std.proofs.Common.{◌≡◌, List, [], ◌∷◌, ◌++◌, ◌∙◌, ap}
use Rattle.std.specs.List.{AllZip, flat_map}
use Rattle.std.proofs.lemmas.Grind.{flat_map-append}
use Rattle.std.proofs.lemmas.List.{append-nil}

-- the relation of two lists holds of one more item each
pub zip_push : {A B : Type 0} (R : A → B → Type 0) (xs : List A) (ys : List B) (x : A) (y : B) → AllZip R xs ys → R x y → AllZip R (xs ++ x ∷ []) (ys ++ y ∷ [])
zip_push R [] [] x y each last = (last, tt)
zip_push R [] (b ∷ ys) x y each last = absurd each
zip_push R (a ∷ xs) [] x y each last = absurd each
zip_push R (a ∷ xs) (b ∷ ys) x y each last = (each.0, zip_push R xs ys x y each.1 last)

-- what the items give, one behind the other
pub flat_map_push : {A B : Type 0} (f : A → List B) (xs : List A) (y : A) → flat_map f (xs ++ y ∷ []) ≡ flat_map f xs ++ f y
flat_map_push f xs y = flat_map-append f xs (y ∷ []) ∙ ap (λ (end : List _). flat_map f xs ++ end) (append-nil (f y))
