-- Fields spell numbers, or are refused.
use Rattle.std.proofs.Common.{◌≡◌, ◌≢◌, ◌⊎◌, ◌<◌, ◌^◌, ℕ, List, [], ◌∷◌, length, map, All, arith, inl, inr, refl}
use Rattle.std.specs.Fmt.{decimal}
use Rattle.std.proofs.lemmas.Bool.{cases_eq, cases_lt}
use Rattle.std.proofs.lemmas.List.Elements.{All-nil, All-cons, All-head, All-tail}
use Rattle.pie_text.specs.declared.number_lists.NotNumbers.{NotNumbers}
use Rattle.pie_text.specs.declared.number_lists.NotNumbers.TheVariants.{Shape, Number}
use Rattle.pie_text.specs.NumberLists.{AreFewFilled, RefusesNumbers, SpellsNumbers}
use Rattle.pie_text.specs.Spelling.{IsNumberUpTo, decimal_value}
use Rattle.pie_text.proofs.Numerals.{fields_spell, spelled_numbers}

-- a fact holds of each item, or not of each
each_or : (P : List ℕ → Type 0) → ((field : List ℕ) → P field ⊎ (¬ P field)) → (fields : List (List ℕ)) → All P fields ⊎ (¬ All P fields)
each_or P one [] = inl (All-nil P)
each_or P one (field ∷ fields) = elim (one field) [
  | inr none ↦ inr (λ all. none (All-head P field fields all))
  | inl first ↦ elim (each_or P one fields) [
    | inl others ↦ inl (All-cons P field fields first others)
    | inr none ↦ inr (λ all. none (All-tail P field fields all))
  ]
]

same_list : (xs ys : List ℕ) → (xs ≡ ys) ⊎ (xs ≢ ys)
same_list [] [] = inl refl
same_list [] (y ∷ ys) = inr (λ same. cc)
same_list (x ∷ xs) [] = inr (λ same. cc)
same_list (x ∷ xs) (y ∷ ys) = elim (cases_eq x y) [
  | inr differs ↦ inr (λ same. let first : x ≡ y = cc in differs first)
  | inl first ↦ elim (same_list xs ys) [ inl others ↦ inl (cc) | inr differ ↦ inr (λ same. let others : xs ≡ ys = cc in differ others) ]
]

number_or : (most : ℕ) (field : List ℕ) → IsNumberUpTo most field ⊎ (¬ IsNumberUpTo most field)
number_or most field = elim (same_list field (decimal (decimal_value field))) [
  | inr other ↦ inr (λ is. other is.spelling)
  | inl spelling ↦ elim (cases_lt most (decimal_value field)) [
    | inl great ↦ inr (λ is. omega (arith, great, is.within))
    | inr within ↦ inl (record { spelling = spelling; within = within })
  ]
]

filled_or : (field : List ℕ) → (field ≢ []) ⊎ (¬ (field ≢ []))
filled_or [] = inr (λ filled. filled refl)
filled_or (byte ∷ field) = inl (λ none. cc)

shape_or : (most_items : ℕ) (fields : List (List ℕ)) → AreFewFilled most_items fields ⊎ (¬ AreFewFilled most_items fields)
shape_or most_items [] = inr (λ has. omega (arith, has.some))
shape_or most_items (field ∷ fields) = elim (cases_lt most_items (length (field ∷ fields))) [
  | inl many ↦ inr (λ has. omega (arith, many, has.room))
  | inr room ↦ elim (each_or (λ f. f ≢ []) filled_or (field ∷ fields)) [
    | inr none ↦ inr (λ has. none has.filled)
    | inl filled ↦ inl (record { some = omega arith; room = room; filled = filled })
  ]
]

pub decided : (most_items most : ℕ) (fields : List (List ℕ)) → most < 2 ^ 32
    → ((numbers : List ℕ) × SpellsNumbers most_items most fields numbers) ⊎ ((reason : NotNumbers) × RefusesNumbers reason most_items most fields)
decided most_items most fields small = elim (shape_or most_items fields) [
  | inr none ↦ inr (Shape, none)
  | inl has ↦ elim (each_or (IsNumberUpTo most) (number_or most) fields) [
    | inl are ↦ inl (map decimal_value fields, fields_spell most_items most fields has.some has.room are)
    | inr none ↦ inr (Number, (has, λ numbers within spells. none (spelled_numbers most fields numbers small within spells)))
  ]
]
