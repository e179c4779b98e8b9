-- The field with which a text begins, where it spells a number.
use Rattle.std.proofs.Common.{Bool, ◌≡◌, ◌≢◌, inl, inr, ℕ, zero, suc, ◌+◌, ◌-◌, ◌*◌, ◌^◌, ◌<◌, ◌≤◌, List, [], ◌∷◌, ◌++◌, length, take, drop, get_or, arith, refl, sym, ◌∙◌, ap, subst, true, false}
use Rattle.std.specs.Char.{digit_value, is_ascii_digit}
use Rattle.std.specs.Fmt.{decimal}
use Rattle.std.specs.Prelude.{All}
use Rattle.std.specs.Str.Parse.{AllDigits}
use Rattle.std.proofs.lemmas.Bool.{cases_eq, cases_lt}
use Rattle.std.proofs.lemmas.Bool.Decides.{nat_tests}
use Rattle.std.proofs.lemmas.Fmt.{decimal_digit, first_decimal, decimal_is_IsNumeral, decimal-digits_value}
use Rattle.std.proofs.lemmas.Grind.{get_or_default_zero}
use Rattle.std.proofs.lemmas.Int.Digits.{digits_more, digits_value_more}
use Rattle.std.proofs.lemmas.List.Elements.{All-cons, All-head}
use Rattle.std.proofs.lemmas.List.{length-drop, length-take-le, take-take, take-append-drop, take_all, drop_more}
use Rattle.std.proofs.lemmas.Simd.{get_or-chunk}
use Rattle.std.proofs.lemmas.Str.{digit_value_digit}
use Rattle.std.proofs.lemmas.Str.Parse.{numerals_by_value, tells_digits, digit_at, digits_value-take-le}
use Rattle.text_fields.specs.Lines.{Lacks, fields_of, space}
use Rattle.text_fields.proofs.LineLaws.{pieces_between-cut, whole_piece}
use Rattle.pie_text.specs.FieldEnd.{IsFieldEnd}
use Rattle.pie_text.specs.Spelling.{IsNumberUpTo, decimal_value}

-- an item of a front
front_item : (text : List ℕ) (end i : ℕ) → i < end → get_or (take end text) i 0 ≡ get_or text i 0
front_item text end i below =
    let place : 0 + i ≡ i = omega arith in
    get_or-chunk 0 end text i 0 below ∙ ap (λ k. get_or text k 0) place

-- a test has one answer
pub not_both : (answer : Bool) → answer ≡ true → answer ≡ false → ⊥
not_both true holds fails = cc
not_both false holds fails = cc

-- the test of a digit
pub tested_digit : (byte : ℕ) → is_ascii_digit byte ≡ true → (48 ≤ byte) × (byte ≤ 57)
tested_digit byte is = grind (arith, nat_tests)

no_digit : (byte : ℕ) → is_ascii_digit byte ≡ false → 48 ≤ byte → byte ≤ 57 → ⊥
no_digit byte is least most = grind (arith, nat_tests)

-- one digit more
pub digit_more : (text : List ℕ) (i number : ℕ) → i < length text → 48 ≤ get_or text i 0 → get_or text i 0 ≤ 57
    → AllDigits 10 (take i text) → number ≡ decimal_value (take i text)
    → AllDigits 10 (take (i + 1) text) × (10 * number + (get_or text i 0 - 48) ≡ decimal_value (take (i + 1) text))
digit_more text i number within least most digits value =
    let digit : digit_value (get_or text i 0) + 48 ≡ get_or text i 0 = digit_value_digit (get_or text i 0) (least, most) in (
      digits_more 10 text i within digits (omega (arith, digit)),
      omega (arith, digit, value, digits_value_more 10 text i within),
    )

-- digits end before a space
digits_before : (text : List ℕ) (i end : ℕ) → i ≤ length text → AllDigits 10 (take i text) → IsFieldEnd text end → i ≤ end
digits_before text i end within digits ends =
    elim (cases_lt end i) [
      | inr behind ↦ behind
      | inl inside ↦ elim ends.1 [
        | inl whole ↦ omega (arith, whole, within, inside)
        | inr stop ↦
            let count : length (take i text) ≡ i = length-take-le i text within in
            let digit = digit_at (take i text) end digits (omega (arith, count, inside)) in
            absurd (omega (arith, digit, front_item text i end inside, stop))
      ]
    ]

-- the digits of a number are digits
number_digits : (most : ℕ) (field : List ℕ) → most < 2 ^ 32 → IsNumberUpTo most field → AllDigits 10 field
number_digits most field small is =
    let digits = (decimal_is_IsNumeral (decimal_value field) (omega (arith, is.within))).0.1 in
    subst (AllDigits 10) (sym is.spelling) digits

-- where the loop stands inside a field that spells a number there is a digit more, and the number so far is not too great
stands_inside : (text : List ℕ) (i end : ℕ) → i ≤ end → i < length text → get_or text i 0 ≢ 32 → IsFieldEnd text end → i < end
stands_inside text i end before within no_space ends =
    elim (cases_lt i end) [
      | inl inside ↦ inside
      | inr behind ↦
          let same : end ≡ i = omega (arith, before, behind) in
          elim ends.1 [
            | inl whole ↦ absurd (omega (arith, whole, same, within))
            | inr stop ↦ absurd (no_space (subst (λ k. get_or text k 0 ≡ 32) same stop))
          ]
    ]

-- the first field of the text ends there, and spells a number up to `most`, which has 32 bits
pub record BeginsWithNumber (most : ℕ) (text : List ℕ) (end : ℕ) : Type 0 where
  pub small : most < 2 ^ 32
  pub ends : IsFieldEnd text end
  pub number : IsNumberUpTo most (take end text)

pub no_digit_here : (most i end : ℕ) (text : List ℕ) → BeginsWithNumber most text end → i < length text → AllDigits 10 (take i text)
    → get_or text i 0 ≢ 32 → is_ascii_digit (get_or text i 0) ≡ false → ⊥
no_digit_here most i end text begins within digits no_space is =
    let before = digits_before text i end (omega (arith, within)) digits begins.ends in
    let inside = stands_inside text i end before within no_space begins.ends in
    let count : length (take end text) ≡ end = length-take-le end text begins.ends.0 in
    let digit = digit_at (take end text) i (number_digits most (take end text) begins.small begins.number) (omega (arith, count, inside)) in
    let same = front_item text end i inside in
    no_digit (get_or text i 0) is (omega (arith, digit, same)) (omega (arith, digit, same))

pub too_great : (most i end : ℕ) (text : List ℕ) → BeginsWithNumber most text end → i < length text → AllDigits 10 (take (i + 1) text)
    → most < decimal_value (take (i + 1) text) → ⊥
too_great most i end text begins within digits great =
    let before = digits_before text (i + 1) end (omega (arith, within)) digits begins.ends in
    let front : decimal_value (take (i + 1) (take end text)) ≤ decimal_value (take end text) = digits_value-take-le 10 (take end text) (i + 1) (omega arith) in
    let same : decimal_value (take (i + 1) (take end text)) ≡ decimal_value (take (i + 1) text) = ap decimal_value (take-take (i + 1) end text before) in
    omega (arith, front, same, great, begins.number.within)

-- behind the last digit stands the end of the field
pub same_end : (most i end : ℕ) (text : List ℕ) → BeginsWithNumber most text end → AllDigits 10 (take i text) → IsFieldEnd text i → end ≡ i
same_end most i end text begins digits stands =
    let before = digits_before text i end stands.0 digits begins.ends in
    let behind = digits_before text end i begins.ends.0 (number_digits most (take end text) begins.small begins.number) stands in
    omega (arith, before, behind)

-- a number that begins with 0 is that digit
one_zero : (n : ℕ) → n < 2 ^ 32 → get_or (decimal n) 0 0 ≡ 48 → length (decimal n) ≡ 1
one_zero zero small zeros = ap (λ (digits : List ℕ). length digits) (decimal_digit 0 (omega arith))
one_zero (suc n) small zeros = absurd (omega (arith, zeros, first_decimal (suc n) (omega arith) (omega arith)))

-- a number has a digit, and no leading zeros
pub number_form : (most : ℕ) (field : List ℕ) → most < 2 ^ 32 → IsNumberUpTo most field → (0 < length field) × (get_or field 0 0 ≡ 48 → length field ≡ 1)
number_form most field small is = (
  subst (λ (list : List ℕ). 0 < length list) (sym is.spelling) (decimal_is_IsNumeral (decimal_value field) (omega (arith, is.within))).0.0,
  λ zeros. subst (λ (list : List ℕ). length list ≡ 1) (sym is.spelling) (one_zero (decimal_value field) (omega (arith, is.within)) (subst (λ (list : List ℕ). get_or list 0 0 ≡ 48) is.spelling zeros)),
)

-- digits that have the form of a number are one
pub digits_are_number : (most : ℕ) (field : List ℕ) → most < 2 ^ 32 → AllDigits 10 field → 0 < length field → (get_or field 0 0 ≡ 48 → length field ≡ 1)
    → decimal_value field ≤ most → IsNumberUpTo most field
digits_are_number most field small digits some zeros within = record {
  spelling = sym (decimal-digits_value (numerals_by_value _ tells_digits) field digits some zeros (omega (arith, within)));
  within = within;
}

-- a number's field has no space
pub lacks_space : (most : ℕ) (field : List ℕ) → most < 2 ^ 32 → IsNumberUpTo most field → Lacks space field
lacks_space most field small is k default below =
    let digit = digit_at field k (number_digits most field small is) below in
    omega (arith, digit, get_or_default_zero field k default below)

-- the fields of a text are the first one and those behind its space
pub cut_field : (text : List ℕ) (end : ℕ) → end < length text → IsFieldEnd text end → Lacks space (take end text)
    → fields_of text ≡ take end text ∷ fields_of (take (length text - (end + 1)) (drop (end + 1) text))
cut_field text end below ends lacks =
    let stop : get_or text end 0 ≡ 32 = elim ends.1 [ inl whole ↦ absurd (omega (arith, whole, below)) | inr stop ↦ stop ] in
    let cut : text ≡ take end text ++ 32 ∷ drop (end + 1) text =
    sym (take-append-drop end text) ∙ ap (λ (list : List ℕ). take end text ++ list) (drop_more text end 0 below ∙ ap (λ (byte : ℕ). byte ∷ drop (end + 1) text) stop) in
    let tail : take (length text - (end + 1)) (drop (end + 1) text) ≡ drop (end + 1) text =
    take_all (length text - (end + 1)) (drop (end + 1) text) (rw length-drop (omega arith)) in
    pieces_between-cut space text (take end text) (drop (end + 1) text) lacks cut ∙ ap (λ (list : List ℕ). take end text ∷ fields_of list) (sym tail)

-- or the first one alone
pub last_field : (text : List ℕ) (end : ℕ) → length text ≤ end → Lacks space (take end text) → fields_of text ≡ take end text ∷ []
last_field text end behind lacks =
    let whole : take end text ≡ text = take_all end text behind in
    whole_piece space text (subst (Lacks space) whole lacks) ∙ ap (λ (list : List ℕ). list ∷ []) (sym whole)

-- each text has a first field
pub first_end : (text : List ℕ) → (end : ℕ) × IsFieldEnd text end × Lacks space (take end text)
first_end [] = (0, (omega arith, inl refl), λ k default below. absurd (omega (arith, below)))
first_end (byte ∷ text) =
    elim (cases_eq byte 32) [
      | inl is ↦ (0, (omega arith, inr is), λ k default below. absurd (omega (arith, below)))
      | inr other ↦
          let rest = first_end text in
          let ends = rest.1 in (
            suc rest.0,
            (omega (arith, ends.0), elim ends.1 [ inl whole ↦ inl (ap suc whole) | inr stop ↦ inr stop ]),
            All-cons (λ each. each ≢ space) byte (take rest.0 text) other rest.2,
          )
    ]

-- where all fields spell numbers, the first does
pub first_number : (most end : ℕ) (text : List ℕ) → IsFieldEnd text end → Lacks space (take end text) → All (IsNumberUpTo most) (fields_of text)
    → IsNumberUpTo most (take end text)
first_number most end text ends lacks all =
    elim (cases_lt end (length text)) [
      | inl below ↦ All-head (IsNumberUpTo most) (take end text) _ (subst (All (IsNumberUpTo most)) (cut_field text end below ends lacks) all)
      | inr behind ↦ All-head (IsNumberUpTo most) (take end text) [] (subst (All (IsNumberUpTo most)) (last_field text end behind lacks) all)
    ]
