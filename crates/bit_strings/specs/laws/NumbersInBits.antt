-- The laws that tie a list of bits to its value.
use Rattle.std.specs.Prelude.{◌≡◌, ℕ, zero, suc, ◌+◌, ◌*◌, ◌/◌, ◌%◌, ◌^◌, ◌<◌, ◌≤◌, ◌==◌, Bool, true, false, List, [], ◌∷◌, ◌++◌, length, refl}
use Rattle.std.proofs.Common.{sym, ◌∙◌, ap, subst, inl, inr, arith, length-append, add-one}
use Rattle.std.proofs.Math.Nat.{pow-suc, mod-eq_of_lt, mod-one, eq-or-lt_of_le}
use Rattle.std.proofs.lemmas.Nat.{mod-pow-add, div-mul-add, pow-add, pow_below, shr_split}
use Rattle.std.proofs.lemmas.Nat.Bits.{bit_at_cat_low}
use Rattle.bit_strings.specs.NumbersInBits.{digit_of, value_of, field_of}

-- a list of bits is below two to its length
pub value_of-below : (bits : List Bool) → value_of bits < 2 ^ length bits
value_of-below [] = omega arith
value_of-below (true ∷ bits) = omega (arith, value_of-below bits, pow-suc 2 (length bits))
value_of-below (false ∷ bits) = omega (arith, value_of-below bits, pow-suc 2 (length bits))

pub length-field_of : (value width : ℕ) → length (field_of value width) ≡ width
unfolding field_of
length-field_of value zero = refl
length-field_of value (suc places) = ap suc (length-field_of value places)

digit_below : (n : ℕ) → n < 2 → digit_of (n == 1) ≡ n
digit_below zero small = refl
digit_below (suc zero) small = refl
digit_below (suc (suc n)) small = omega arith

-- the value of the last digits of a number is what they leave of it
pub value_of-field_of : (value width : ℕ) → value_of (field_of value width) ≡ value % 2 ^ width
unfolding field_of
value_of-field_of value zero = sym (mod-one value)
value_of-field_of value (suc places) =
    let digit : digit_of (value / 2 ^ places % 2 == 1) ≡ value / 2 ^ places % 2 = digit_below (value / 2 ^ places % 2) (omega arith) in
    let split : value % 2 ^ (1 + places) ≡ (value / 2 ^ places % 2) * 2 ^ places + value % 2 ^ places = mod-pow-add value 1 places in
    let same : 1 + places ≡ suc places = omega arith in
    rw (digit, length-field_of value places, value_of-field_of value places) (sym split ∙ ap (λ n. value % 2 ^ n) same)

-- the value of the last digits of a number is the number itself where it has no more digits than that
pub value_of-field : (value width : ℕ) → value < 2 ^ width → value_of (field_of value width) ≡ value
value_of-field value width small = value_of-field_of value width ∙ mod-eq_of_lt small

-- two such numbers with one field are one number
pub field_of-same : (n m width : ℕ) → n < 2 ^ width → m < 2 ^ width → field_of n width ≡ field_of m width → n ≡ m
field_of-same n m width p q same = sym (value_of-field n width p) ∙ ap value_of same ∙ value_of-field m width q

-- digits in front change no digit behind
field_of-low : (a k v width : ℕ) → width ≤ k → field_of (a * 2 ^ k + v) width ≡ field_of v width
unfolding field_of
field_of-low a k v zero within = refl
field_of-low a k v (suc places) within =
    let digit : (a * 2 ^ k + v) / 2 ^ places % 2 ≡ v / 2 ^ places % 2 = bit_at_cat_low a k v places (omega arith) in
    rw (digit, field_of-low a k v places (omega arith))

digit_of-digit : (bit : Bool) → (digit_of bit % 2 == 1) ≡ bit
digit_of-digit true = refl
digit_of-digit false = refl

-- a list of bits is the field of its value
pub field_of-value_of : (bits : List Bool) → field_of (value_of bits) (length bits) ≡ bits
unfolding field_of
field_of-value_of [] = refl
field_of-value_of (bit ∷ bits) =
    let n = length bits in
    let top : (digit_of bit * 2 ^ n + value_of bits) / 2 ^ n ≡ digit_of bit = div-mul-add (digit_of bit) (2 ^ n) (value_of bits) (value_of-below bits) in
    let low : field_of (digit_of bit * 2 ^ n + value_of bits) n ≡ bits = field_of-low (digit_of bit) n (value_of bits) n (omega arith) ∙ field_of-value_of bits in
    rw (top, low) (ap (λ (b : Bool). b ∷ bits) (digit_of-digit bit))

-- two lists of one length with one value are one list
pub same_from_value : (xs ys : List Bool) → length xs ≡ length ys → value_of xs ≡ value_of ys → xs ≡ ys
same_from_value xs ys lengths values = sym (field_of-value_of xs) ∙ ap (λ n. field_of n (length xs)) values ∙ ap (λ n. field_of (value_of ys) n) lengths ∙ field_of-value_of ys

-- two lists, one behind the other
pub value_of-append : (xs ys : List Bool) → value_of (xs ++ ys) ≡ value_of xs * 2 ^ length ys + value_of ys
value_of-append [] ys = omega arith
value_of-append (x ∷ xs) ys =
    rw (length-append xs ys, pow-add 2 (length xs) (length ys), value_of-append xs ys) (grind arith)

-- one more bit at the end
pub value_of-push : (bits : List Bool) (bit : Bool) → value_of (bits ++ bit ∷ []) ≡ 2 * value_of bits + digit_of bit
value_of-push bits bit = omega (arith, value_of-append bits (bit ∷ []))

-- a list of at most so many bits is below two to that number
pub value_of-within : (bits : List Bool) (width : ℕ) → length bits ≤ width → value_of bits < 2 ^ width
value_of-within bits width within =
    elim (eq-or-lt_of_le within) [
      | inl same ↦ subst (λ (n : ℕ). value_of bits < 2 ^ n) same (value_of-below bits)
      | inr less ↦ omega (arith, value_of-below bits, pow_below (length bits) width less)
    ]

-- a field of one more bit begins with its most significant
pub field_of-more : (value width places : ℕ) → width ≡ places + 1 → field_of value width ≡ (value / 2 ^ places % 2 == 1) ∷ field_of value places
unfolding field_of
field_of-more value width places same = ap (λ n. field_of value n) (same ∙ add-one places)

pub field_of-none : (value width : ℕ) → width ≡ 0 → field_of value width ≡ []
unfolding field_of
field_of-none value width same = ap (λ n. field_of value n) same

-- a field looks at the last digits alone
pub field_of-mod : (value width : ℕ) → field_of (value % 2 ^ width) width ≡ field_of value width
field_of-mod value width =
    sym (field_of-low (value / 2 ^ width) width (value % 2 ^ width) width (omega arith)) ∙ ap (λ n. field_of n width) (shr_split value width)

-- a number below two to the width, and the width, are what its field says
pub value_and_width : {A : Type 0} (make : ℕ → ℕ → A) (value width : ℕ) → value < 2 ^ width → make (value_of (field_of value width)) (length (field_of value width)) ≡ make value width
value_and_width make value width small =
    ap (λ n. make n (length (field_of value width))) (value_of-field value width small) ∙ ap (λ n. make value n) (length-field_of value width)
