-- For any family of lists: a front of what begins a member begins one, and a list has one answer.
use Rattle.std.proofs.Common.{◌≡◌, ℕ, ◌+◌, ◌<◌, ◌≤◌, List, [], ◌∷◌, ◌++◌, length, take, drop, sym, subst, inl, inr, append_assoc, arith, length-append, length-take}
use Rattle.std.proofs.lemmas.List.{take-append-drop, take-append-le, take-take, append-nil}
use Rattle.std.proofs.lemmas.Bool.{cases_order}
use Rattle.std.proofs.Math.Seq.{take-append_seam, take-append-add}
use Rattle.bit_strings.specs.Family.{Begins, IsBadAt, IsShortAt}

pub begins-front : {A : Type 0} (X : List A → Type 0) (xs ys : List A) → Begins X (xs ++ ys) → Begins X xs
begins-front X xs ys b = (ys ++ b.0, subst X (append_assoc xs ys b.0) b.1)

pub begins-take : {A : Type 0} (X : List A → Type 0) (n : ℕ) (xs : List A) → Begins X xs → Begins X (take n xs)
begins-take X n xs b = begins-front X (take n xs) (drop n xs) (subst (Begins X) (sym (take-append-drop n xs)) b)

pub begins-member : {A : Type 0} (X : List A → Type 0) (xs : List A) → X xs → Begins X xs
begins-member X xs x = ([], subst X (sym (append-nil xs)) x)

pub bad-more : {A : Type 0} (X : List A → Type 0) (xs ys : List A) (p : ℕ) → IsBadAt X xs p → IsBadAt X (xs ++ ys) p
bad-more X xs ys p bad =
    let le : p ≤ length xs = omega (arith, bad.inside) in
    let le1 : p + 1 ≤ length xs = omega (arith, bad.inside) in
    record {
      inside = omega (arith, bad.inside, length-append xs ys);
      begins = subst (Begins X) (sym (take-append-le p xs ys le)) bad.begins;
      stops = λ b. bad.stops (subst (Begins X) (take-append-le (p + 1) xs ys le1) b);
    }

-- a front that is refused at a place refuses the whole list there
pub bad-in_front : {A : Type 0} (X : List A → Type 0) (xs : List A) (n p : ℕ) → IsBadAt X (take n xs) p → IsBadAt X xs p
bad-in_front X xs n p bad =
    let size = length-take n xs in
    record {
      inside = omega (arith, bad.inside);
      begins = rw (← take-take p n xs (omega (arith, bad.inside))) bad.begins;
      stops = rw (← take-take (p + 1) n xs (omega (arith, bad.inside))) bad.stops;
    }

-- the last item is the first that no member has there
pub bad-last : {A : Type 0} (X : List A → Type 0) (xs : List A) (x : A) → Begins X xs → ¬ Begins X (xs ++ x ∷ []) →
    IsBadAt X (xs ++ x ∷ []) (length xs)
bad-last X xs x b s = record {
  inside = omega (arith, length-append xs (x ∷ []));
  begins = subst (Begins X) (sym (take-append_seam xs (x ∷ []))) b;
  stops = λ b'. s (subst (Begins X) (take-append-add xs (x ∷ []) 1) b');
}

pub member-not_bad : {A : Type 0} (X : List A → Type 0) (xs : List A) (p : ℕ) → X xs → IsBadAt X xs p → ⊥
member-not_bad X xs p x bad = bad.stops (begins-take X (p + 1) xs (begins-member X xs x))

pub short-not_bad : {A : Type 0} (X : List A → Type 0) (xs : List A) (n p : ℕ) → IsShortAt X xs n → IsBadAt X xs p → ⊥
short-not_bad X xs n p short bad = bad.stops (begins-take X (p + 1) xs short.begins)

pub bad-not_before : {A : Type 0} (X : List A → Type 0) (xs : List A) (p q : ℕ) → IsBadAt X xs p → IsBadAt X xs q → p < q → ⊥
bad-not_before X xs p q bad bad' lt =
    let le : p + 1 ≤ q = omega arith in
    bad.stops (subst (Begins X) (take-take (p + 1) q xs le) (begins-take X (p + 1) (take q xs) bad'.begins))

pub bad-one : {A : Type 0} (X : List A → Type 0) (xs : List A) (p q : ℕ) → IsBadAt X xs p → IsBadAt X xs q → p ≡ q
bad-one X xs p q bad bad' = elim (cases_order p q) [
  | inl e ↦ e
  | inr o ↦ elim o [
    | inl lt ↦ absurd (bad-not_before X xs p q bad bad' lt)
    | inr lt ↦ absurd (bad-not_before X xs q p bad' bad lt)
  ]
]
