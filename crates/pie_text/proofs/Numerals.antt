-- Lists of numbers and their fields.
use Rattle.std.proofs.Common.{◌≡◌, ◌≢◌, ◌↔◌, ◌+◌, ◌-◌, ◌<◌, ◌≤◌, ◌^◌, ℕ, List, [], ◌∷◌, ◌++◌, length, map, All, ap, arith, refl, sym, ◌∙◌, append_assoc, length-append}
use Rattle.std.specs.Fmt.{decimal}
use Rattle.std.proofs.lemmas.Fmt.{decimal_is_IsNumeral}
use Rattle.std.proofs.lemmas.List.{length-map}
use Rattle.std.proofs.lemmas.List.Elements.{All-nil, All-cons, All-head, All-tail}
use Rattle.pie_text.specs.declared.number_lists.NotNumbers.{NotNumbers}
use Rattle.pie_text.specs.declared.number_lists.NotNumbers.TheVariants.{Shape, Number}
use Rattle.pie_text.specs.NumberLists.{AreFewFilled, RefusesNumbers, SpellsNumbers}
use Rattle.pie_text.specs.Spelling.{IsNumberUpTo, decimal_value}

-- the fact of `within`
abbrev IsWithin : ℕ → ℕ → Type 0
IsWithin most number = number ≤ most

-- the fact of `filled`
abbrev IsFilled : List ℕ → Type 0
IsFilled field = field ≢ []

-- a number has a digit
pub number_is_filled : (most : ℕ) (field : List ℕ) → most < 2 ^ 32 → IsNumberUpTo most field → field ≢ []
number_is_filled most field small is none =
    let some : 0 < length (decimal (decimal_value field)) = (decimal_is_IsNumeral (decimal_value field) (omega (arith, is.within))).0.0 in
    omega (arith, some, ap length is.spelling, ap length none)

-- the number of a number's digits
number_back : (most number : ℕ) → most < 2 ^ 32 → number ≤ most → decimal_value (decimal number) ≡ number
number_back most number small within = (decimal_is_IsNumeral number (omega arith)).1

decimal_is_filled : (most number : ℕ) → most < 2 ^ 32 → number ≤ most → decimal number ≢ []
decimal_is_filled most number small within none =
    let some : 0 < length (decimal number) = (decimal_is_IsNumeral number (omega arith)).0.0 in
    let count = ap length none in
    omega arith

-- a number's digits are a number's spelling
pub spelling_is_number : (most number : ℕ) (field : List ℕ) → most < 2 ^ 32 → number ≤ most → field ≡ decimal number → IsNumberUpTo most field
spelling_is_number most number field small within spells =
    let back : decimal_value field ≡ number = ap decimal_value spells ∙ number_back most number small within in
    record { spelling = spells ∙ ap decimal (sym back); within = omega arith }

digits_are_numbers : (most : ℕ) (numbers : List ℕ) → most < 2 ^ 32 → All (IsWithin most) numbers → All (IsNumberUpTo most) (map decimal numbers)
digits_are_numbers most [] small within = All-nil (IsNumberUpTo most)
digits_are_numbers most (number ∷ numbers) small within =
    All-cons (IsNumberUpTo most) (decimal number) (map decimal numbers)
    (spelling_is_number most number (decimal number) small (All-head (IsWithin most) number numbers within) refl)
    (digits_are_numbers most numbers small (All-tail (IsWithin most) number numbers within))

digits_are_filled : (most : ℕ) (numbers : List ℕ) → most < 2 ^ 32 → All (IsWithin most) numbers → All IsFilled (map decimal numbers)
digits_are_filled most [] small within = All-nil IsFilled
digits_are_filled most (number ∷ numbers) small within =
    All-cons IsFilled (decimal number) (map decimal numbers)
    (decimal_is_filled most number small (All-head (IsWithin most) number numbers within))
    (digits_are_filled most numbers small (All-tail (IsWithin most) number numbers within))

values_back : (most : ℕ) (numbers : List ℕ) → most < 2 ^ 32 → All (IsWithin most) numbers → map decimal_value (map decimal numbers) ≡ numbers
values_back most [] small within = refl
values_back most (number ∷ numbers) small within =
    rw (
      number_back most number small (All-head (IsWithin most) number numbers within),
      values_back most numbers small (All-tail (IsWithin most) number numbers within),
    ) refl

digits_of_values : (most : ℕ) (fields : List (List ℕ)) → All (IsNumberUpTo most) fields → fields ≡ map decimal (map decimal_value fields)
digits_of_values most [] are = refl
digits_of_values most (field ∷ fields) are =
    let first = (All-head (IsNumberUpTo most) field fields are).spelling in
    let others = digits_of_values most fields (All-tail (IsNumberUpTo most) field fields are) in
    ap (λ (f : List ℕ). f ∷ fields) first ∙ ap (λ (fs : List (List ℕ)). decimal (decimal_value field) ∷ fs) others

values_within : (most : ℕ) (fields : List (List ℕ)) → All (IsNumberUpTo most) fields → All (IsWithin most) (map decimal_value fields)
values_within most [] are = All-nil (IsWithin most)
values_within most (field ∷ fields) are =
    All-cons (IsWithin most) (decimal_value field) (map decimal_value fields) (All-head (IsNumberUpTo most) field fields are).within
    (values_within most fields (All-tail (IsNumberUpTo most) field fields are))

-- fields that spell numbers have their shape
pub spelled_shape : (most_items most : ℕ) (fields : List (List ℕ)) (numbers : List ℕ) → most < 2 ^ 32
    → SpellsNumbers most_items most fields numbers → AreFewFilled most_items fields
spelled_shape most_items most fields numbers small spells =
    let count : length fields ≡ length numbers = rw (spells.spelling, length-map) refl in
    let some = spells.some in
    let room = spells.room in
    record {
      some = omega arith;
      room = omega arith;
      filled = rw spells.spelling (digits_are_filled most numbers small spells.within);
    }

-- each of fields that spell numbers spells a number
pub spelled_numbers : (most : ℕ) (fields : List (List ℕ)) (numbers : List ℕ) → most < 2 ^ 32
    → All (λ number. number ≤ most) numbers → fields ≡ map decimal numbers → All (IsNumberUpTo most) fields
spelled_numbers most fields numbers small within spells = rw spells (digits_are_numbers most numbers small within)

-- fields spell the numbers of the fields
pub fields_spell : (most_items most : ℕ) (fields : List (List ℕ)) → 1 ≤ length fields → length fields ≤ most_items → All (IsNumberUpTo most) fields
    → SpellsNumbers most_items most fields (map decimal_value fields)
fields_spell most_items most fields some room are =
    let count : length (map decimal_value fields) ≡ length fields = rw length-map refl in
    record {
      spelling = digits_of_values most fields are;
      some = omega arith;
      room = omega arith;
      within = values_within most fields are;
    }

-- fields spell no other numbers
pub one_spelling : (most_items most : ℕ) (fields : List (List ℕ)) (numbers : List ℕ) → most < 2 ^ 32
    → SpellsNumbers most_items most fields numbers → map decimal_value fields ≡ numbers
one_spelling most_items most fields numbers small spells =
    ap (λ (fs : List (List ℕ)). map decimal_value fs) spells.spelling ∙ values_back most numbers small spells.within

-- The list holds the numbers of the fields before `rest`, each of which spells one; there are at most so many.
pub record HoldsBefore (most_items most : ℕ) (fields rest : List (List ℕ)) (items : List ℕ) : Type 0 where
  pub count : length fields ≡ length items + length rest
  pub few : length items ≤ most_items
  pub values : map decimal_value fields ≡ items ++ map decimal_value rest
  pub numbers : All (IsNumberUpTo most) fields ↔ All (IsNumberUpTo most) rest
  pub filled : All (λ field. field ≢ []) fields ↔ All (λ field. field ≢ []) rest

-- the next field spells a number, for which there is room
pub record IsNextNumber (most_items most : ℕ) (field items : List ℕ) : Type 0 where
  pub small : most < 2 ^ 32
  pub room : length items < most_items
  pub number : IsNumberUpTo most field

-- one number more
pub holds_next : (most_items most : ℕ) (fields rest : List (List ℕ)) (field items : List ℕ) → HoldsBefore most_items most fields (field ∷ rest) items
    → IsNextNumber most_items most field items → HoldsBefore most_items most fields rest (items ++ decimal_value field ∷ [])
holds_next most_items most fields rest field items holds next =
    let longer : length (items ++ decimal_value field ∷ []) ≡ length items + 1 = length-append items (decimal_value field ∷ []) in
    record {
      count = omega (arith, holds.count, longer);
      few = omega (arith, longer, next.room);
      values = holds.values ∙ sym (append_assoc items (decimal_value field ∷ []) (map decimal_value rest));
      numbers = (
        λ all. All-tail (IsNumberUpTo most) field rest (holds.numbers.0 all),
        λ are. holds.numbers.1 (All-cons (IsNumberUpTo most) field rest next.number are),
      );
      filled = (
        λ all. All-tail IsFilled field rest (holds.filled.0 all),
        λ are. holds.filled.1 (All-cons IsFilled field rest (number_is_filled most field next.small next.number) are),
      );
    }

-- what is left has its shape where the fields have theirs
pub shape_behind : (most_items most : ℕ) (fields rest : List (List ℕ)) (items : List ℕ) → HoldsBefore most_items most fields rest items → 1 ≤ length rest
    → AreFewFilled most_items fields ↔ AreFewFilled (most_items - length items) rest
shape_behind most_items most fields rest items holds some = (
  λ has. record { some = some; room = omega (arith, has.room, holds.count); filled = holds.filled.0 has.filled },
  λ has. record { some = omega (arith, holds.count, some); room = omega (arith, has.room, holds.count, holds.few); filled = holds.filled.1 has.filled },
)

-- where a field is no number, the fields are refused for the reason that is said of their shape
pub refused_for : (most_items most : ℕ) (fields : List (List ℕ)) (reason : NotNumbers) → most < 2 ^ 32 → ¬ All (IsNumberUpTo most) fields
    → (reason ≡ Shape → ¬ AreFewFilled most_items fields) → (reason ≡ Number → AreFewFilled most_items fields) → RefusesNumbers reason most_items most fields
refused_for most_items most fields Shape small none shape number = shape refl
refused_for most_items most fields Number small none shape number = (number refl, λ numbers within spells. none (spelled_numbers most fields numbers small within spells))
