-- The number that a field spells, by what a reader of numbers finds.
use Rattle.std.proofs.Common.{◌≡◌, ◌<◌, ◌^◌, ◌&&◌, ℕ, Bool, true, false, nat_lt, List, Option, Some, None, refl, sym, ap, ◌∙◌, subst}
use Rattle.std.proofs.lemmas.Bool.{lt-ltb, ltb-true}
use Rattle.std.proofs.lemmas.Fmt.{digits_value-decimal}
use Rattle.std.proofs.lemmas.Slice.Eq.{bytes_eq-Decides}
use Rattle.std.proofs.lemmas.Str.Parse.{numerals_by_value, tells_digits}
use Rattle.std.specs.Prelude.{IfSome, bytes_eq, if◌then◌else◌}
use Rattle.std.specs.Fmt.{decimal}
use Rattle.std.specs.Str.Parse.{digits_value}
use Rattle.line_objects.specs.Values.{number_in}

value_of : (n : ℕ) → n < 2 ^ 64 → digits_value 10 (decimal n) ≡ n
value_of n small = digits_value-decimal (numerals_by_value _ tells_digits) n small

chosen : (same small : Bool) (m n : ℕ) → same ≡ true → small ≡ true → m ≡ n → (if same && small then Some m else None) ≡ Some n
chosen same small m n is fits equal = rw (is, fits, equal) refl

-- a number is read back
pub spelled_in : (n : ℕ) → n < 2 ^ 64 → number_in (decimal n) ≡ Some n
spelled_in n small =
    let value = value_of n small in
    chosen (bytes_eq (decimal n) (decimal (digits_value 10 (decimal n)))) (nat_lt (digits_value 10 (decimal n)) (2 ^ 64)) (digits_value 10 (decimal n)) n
    ((bytes_eq-Decides (decimal n) (decimal (digits_value 10 (decimal n)))).1 (ap decimal (sym value)))
    (lt-ltb (digits_value 10 (decimal n)) (2 ^ 64) (subst (λ (m : ℕ). m < 2 ^ 64) (sym value) small)) value

chosen_back : (same small : Bool) (m n : ℕ) → (if same && small then Some m else None) ≡ Some n → (same ≡ true) × (small ≡ true) × (m ≡ n)
chosen_back true true m n is = (refl, refl, cc)
chosen_back true false m n is = absurd cc
chosen_back false small m n is = absurd cc

found_in : (field : List ℕ) (n : ℕ) → number_in field ≡ Some n → (field ≡ decimal n) × (n < 2 ^ 64)
found_in field n is =
    let value = digits_value 10 field in
    let back = chosen_back (bytes_eq field (decimal value)) (nat_lt value (2 ^ 64)) value n is in (
      (bytes_eq-Decides field (decimal value)).0 back.0 ∙ ap decimal back.2,
      subst (λ (m : ℕ). m < 2 ^ 64) back.2 (ltb-true value (2 ^ 64) back.1),
    )

none_in : (field : List ℕ) (found : Option ℕ) → number_in field ≡ found → ((n : ℕ) → n < 2 ^ 64 → field ≡ decimal n → None ≡ Some n) → None ≡ number_in field
none_in field None is only = sym is
none_in field (Some n) is only = let at = found_in field n is in only n at.1 at.0 ∙ sym is

-- what a reader finds is the number that the field spells
pub number_read : (field : List ℕ) (read : Option ℕ) → IfSome read (λ n. (field ≡ decimal n) × (n < 2 ^ 64)) → ((n : ℕ) → n < 2 ^ 64 → field ≡ decimal n → read ≡ Some n) → read ≡ number_in field
number_read field (Some n) value only = subst (λ (f : List ℕ). Some n ≡ number_in f) (sym value.0) (sym (spelled_in n value.1))
number_read field None value only = none_in field (number_in field) refl only
