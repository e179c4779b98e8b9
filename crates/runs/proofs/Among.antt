-- An item is one of a list: by recursion, and by its place.
use Rattle.std.proofs.Common.{◌≡◌, zero, suc, ◌⊎◌, inl, inr, Bool, true, false, if◌then◌else◌, List, [], ◌∷◌, ◌++◌, Contains, filter, le_of_suc-le-suc, ap, ◌∙◌, arith}

-- an item is one of a list
abbrev pub Among : {A : Type 0} → A → List A → Type 0
Among item [] = ⊥
Among item (first ∷ others) = (first ≡ item) ⊎ Among item others

pub among-split : {A : Type 0} (item : A) (left right : List A) → Among item (left ++ right) → Among item left ⊎ Among item right
among-split item [] right among = inr among
among-split item (first ∷ left) right (inl here) = inl (inl here)
among-split item (first ∷ left) right (inr there) = elim (among-split item left right there) [ inl found ↦ inl (inr found) | inr found ↦ inr found ]

pub among-of : {A : Type 0} (item : A) (list : List A) → Contains list item → Among item list
among-of item [] (place, within, is) = absurd (omega (arith, within))
among-of item (first ∷ others) (zero, within, is) = inl is
among-of item (first ∷ others) (suc place, within, is) = inr (among-of item others (place, le_of_suc-le-suc within, is))

pub contains-of : {A : Type 0} (item : A) (list : List A) → Among item list → Contains list item
contains-of item [] among = absurd among
contains-of item (first ∷ others) (inl here) = (zero, omega arith, here)
contains-of item (first ∷ others) (inr there) =
    let rest = contains-of item others there in (suc rest.0, omega (arith, rest.1), rest.2)

pub among-left : {A : Type 0} (item : A) (left right : List A) → Among item left → Among item (left ++ right)
among-left item [] right among = absurd among
among-left item (first ∷ left) right (inl is) = inl is
among-left item (first ∷ left) right (inr among) = inr (among-left item left right among)

pub among-right : {A : Type 0} (item : A) (left right : List A) → Among item right → Among item (left ++ right)
among-right item [] right among = among
among-right item (first ∷ left) right among = inr (among-right item left right among)

-- also where another stands before them or not
pub among-later : {A : Type 0} (item first : A) (others : List A) (keeps : Bool) → Among item others → Among item (if keeps then first ∷ others else others)
among-later item first others true among = inr among
among-later item first others false among = among

-- what passes a test is among those that pass
pub among-filter : {A : Type 0} (test : A → Bool) (item : A) (list : List A) → test item ≡ true → Among item list → Among item (filter test list)
among-filter test item [] passes among = absurd among
among-filter test item (first ∷ others) passes (inl is) = let here : test first ≡ true = ap test is ∙ passes in rw here (inl is)
among-filter test item (first ∷ others) passes (inr among) = among-later item first (filter test others) (test first) (among-filter test item others passes among)
