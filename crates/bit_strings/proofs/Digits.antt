-- How a loop over bits adds their digits.
use Rattle.std.proofs.Common.{◌≡◌, ◌+◌, ◌*◌, ◌^◌, ◌<◌, ◌≤◌, ℕ, Bool, true, false, List, length, take, get_or, ◌/◌, ◌%◌, ◌∷◌, ◌++◌, [], append_assoc, append-nil, refl, ap, sym, ◌∙◌, arith, length-take}
use Rattle.std.specs.Prelude.{◌==◌}
use Rattle.bit_strings.specs.NumbersInBits.{value_of, digit_of, field_of}
use Rattle.bit_strings.specs.laws.NumbersInBits.{value_of-within, value_of-push, field_of-more, field_of-none}
use Rattle.bit_strings.specs.BitString.{BitString}
use mir.Val.{bool_byte}
use Rattle.std.proofs.lemmas.List.{take_more}

-- the value of a front of at most 31 bits, one bit further on
pub value_of-take_more : (bits : List Bool) (i : ℕ) (d : Bool) → i < length bits → value_of (take (i + 1) bits) ≡ 2 * value_of (take i bits) + digit_of (get_or bits i d)
value_of-take_more bits i d within = rw (take_more bits i d) (value_of-push (take i bits) (get_or bits i d))

pub digit_of-byte : (bit : Bool) → bool_byte bit ≡ digit_of bit
digit_of-byte true = refl
digit_of-byte false = refl

-- so few digits leave room for one more
pub value_of-take_below : (bits : List Bool) (i : ℕ) → length bits ≤ 31 → i < length bits → value_of (take i bits) < 2 ^ 30
value_of-take_below bits i few within = value_of-within (take i bits) 30 (omega (arith, length-take i bits))

pub digits_more : (bits : List Bool) (i value digit : ℕ) → i < length bits → value ≡ value_of (take i bits) → digit ≡ bool_byte (get_or bits i false) → 2 * value + digit ≡ value_of (take (i + 1) bits)
digits_more bits i value digit within so_far read = omega (arith, value_of-take_more bits i false within, digit_of-byte (get_or bits i false))

pub byte_small : (bit : Bool) → bool_byte bit ≤ 1
byte_small true = omega arith
byte_small false = omega arith

-- the next bit of a field, behind those that stand
pub field_more : (front whole : List Bool) (value width places : ℕ) → width ≡ places + 1 → front ++ field_of value width ≡ whole → (front ++ (value / 2 ^ places % 2 == 1) ∷ []) ++ field_of value places ≡ whole
field_more front whole value width places step so_far =
    append_assoc front ((value / 2 ^ places % 2 == 1) ∷ []) (field_of value places) ∙ ap (λ (more : List Bool). front ++ more) (sym (field_of-more value width places step)) ∙ so_far

pub field_all : (front whole : List Bool) (value width : ℕ) → width ≤ 0 → front ++ field_of value width ≡ whole → front ≡ whole
field_all front whole value width none so_far =
    sym (append-nil front) ∙ ap (λ (more : List Bool). front ++ more) (sym (field_of-none value width (omega arith))) ∙ so_far

pub same_string : (bits : BitString) (items : List Bool) (capacity : ℕ) → bits.items ≡ items → bits.capacity ≡ capacity → bits ≡ record { items = items; capacity = capacity }
same_string bits items capacity same_items same_capacity =
    ap (λ (i : List Bool). record { items = i; capacity = bits.capacity }) same_items ∙ ap (λ (n : ℕ). record { items = items; capacity = n }) same_capacity
