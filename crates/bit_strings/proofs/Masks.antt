-- The mask of 16 lanes, each of which is a bit.
use Rattle.std.proofs.Common.{◌≡◌, ℕ, zero, suc, ◌*◌, ◌/◌, ◌%◌, ◌^◌, ◌<◌, Bool, true, false, List, [], ◌∷◌, ◌++◌, length, ◌+◌, ◌≤◌, take, take_all, pow_pos, get_or, refl, ap, sym, ◌∙◌, arith}
use Rattle.std.specs.Prelude.{◌==◌, map, bit_and}
use Rattle.std.proofs.lemmas.Nat.Bits.{and_pow}
use Rattle.std.specs.Simd.Lanes.{top, pick_l}
use Rattle.std.specs.List.{range_with_len}
use Rattle.std.proofs.Math.Bool.{cond}
use Rattle.std.proofs.lemmas.Simd.{pick_l_whole}
use Rattle.bit_strings.specs.NumbersInBits.{digit_of, value_of, field_of}
use Rattle.std.proofs.lemmas.Bool.{eq-eqb, ne_eqb}
use Rattle.std.proofs.lemmas.Nat.{shr-shr}
use Rattle.bit_strings.specs.laws.NumbersInBits.{field_of-more, field_of-mod}
use Rattle.std.proofs.lemmas.List.{map-append}
use lib.Dec.{eqb}
use mir.Val.{bool_byte}

lane_of : (bit : Bool) → cond (top 7 (cond (eqb (bool_byte bit) 1) 255 0)) 1 0 ≡ digit_of bit
lane_of true = refl
lane_of false = refl

-- the lane that holds the bit at a place
pub lane : (bits : List Bool) (at digit : ℕ) → digit ≡ bool_byte (get_or bits at false) → cond (top 7 (cond (eqb digit 1) 255 0)) 1 0 ≡ digit_of (get_or bits at false)
lane bits at digit read = rw read (lane_of (get_or bits at false))

-- 16 bits, each by its place
pub value_of-sixteen : (bits : List Bool) → length bits ≡ 16 → value_of (pick_l false bits (range_with_len 0 16)) ≡ value_of bits
value_of-sixteen bits long = ap value_of (pick_l_whole false bits 16 long)

place-set : (n k : ℕ) → n < 2 → cond (top 7 (cond (eqb (n * 2 ^ k) (2 ^ k)) 255 0)) 1 0 ≡ digit_of (n == 1)
place-set zero k small = rw (ne_eqb (0 * 2 ^ k) (2 ^ k) (λ none. omega (arith, pow_pos k)))
place-set (suc zero) k small = rw (eq-eqb (1 * 2 ^ k) (2 ^ k) (omega arith))
place-set (suc (suc n)) k small = absurd (omega arith)

-- the digit of a byte at a place, from its lane
pub place : (byte k : ℕ) → cond (top 7 (cond (eqb (bit_and byte (2 ^ k)) (2 ^ k)) 255 0)) 1 0 ≡ digit_of (byte / 2 ^ k % 2 == 1)
place byte k = rw (and_pow byte k) (place-set (byte / 2 ^ k % 2) k (omega arith))

-- the digits of a byte, from their lanes
abbrev byte_lanes : ℕ → List ℕ
byte_lanes byte =
    map (λ place. cond (top 7 (cond (eqb (bit_and byte place) place) 255 0)) 1 0) (128 ∷ 64 ∷ 32 ∷ 16 ∷ 8 ∷ 4 ∷ 2 ∷ 1 ∷ [])

byte_digits : (byte : ℕ) → byte_lanes byte ≡ map digit_of (field_of byte 8)
unfolding field_of
byte_digits byte = rw (place byte 7, place byte 6, place byte 5, place byte 4, place byte 3, place byte 2, place byte 1, place byte 0)

-- the first digits of a number are those of what is left where the last are dropped
field_of-split : (value a b width : ℕ) → width ≡ a + b → field_of value width ≡ field_of (value / 2 ^ b) a ++ field_of value b
unfolding field_of
field_of-split value zero b width same =
    let none : width ≡ b = omega arith in
    ap (λ n. field_of value n) none
field_of-split value (suc a) b width same =
    let bit : value / 2 ^ b / 2 ^ a ≡ value / 2 ^ (a + b) = shr-shr value b a ∙ ap (λ n. value / 2 ^ n) (omega arith) in
    field_of-more value width (a + b) (omega arith)
    ∙ rw bit (ap (λ (rest : List Bool). (value / 2 ^ (a + b) % 2 == 1) ∷ rest) (field_of-split value a b (a + b) refl))

-- a word is two bytes
pub word_digits : (word : ℕ) → byte_lanes (word / 256 % 256) ++ byte_lanes (word % 256) ≡ map digit_of (field_of word 16)
word_digits word =
    let high = field_of (word / 256 % 256) 8 in
    let low = field_of (word % 256) 8 in
    ap (λ (digits : List ℕ). digits ++ byte_lanes (word % 256)) (byte_digits (word / 256 % 256))
    ∙ ap (λ (digits : List ℕ). map digit_of high ++ digits) (byte_digits (word % 256))
    ∙ sym (map-append digit_of high low)
    ∙ ap (λ (bits : List Bool). map digit_of (bits ++ low)) (field_of-mod (word / 256) 8)
    ∙ ap (λ (bits : List Bool). map digit_of (field_of (word / 256) 8 ++ bits)) (field_of-mod word 8)
    ∙ ap (λ (bits : List Bool). map digit_of bits) (sym (field_of-split word 8 8 16 refl))

pub digits-bits : (bits : List Bool) → map (λ digit. digit == 1) (map digit_of bits) ≡ bits
digits-bits [] = refl
digits-bits (true ∷ bits) = ap (λ (rest : List Bool). true ∷ rest) (digits-bits bits)
digits-bits (false ∷ bits) = ap (λ (rest : List Bool). false ∷ rest) (digits-bits bits)

-- all digits are written
pub all_written : (bits whole : List Bool) (digits : List ℕ) (at : ℕ) → length bits ≤ at → length digits ≤ at → take at bits ≡ map (λ digit. digit == 1) (take at digits) → digits ≡ map digit_of whole → bits ≡ whole
all_written bits whole digits at p q so_far are =
    sym (take_all at bits p) ∙ so_far ∙ ap (λ (ds : List ℕ). map (λ digit. digit == 1) ds) (take_all at digits q ∙ are) ∙ digits-bits whole
