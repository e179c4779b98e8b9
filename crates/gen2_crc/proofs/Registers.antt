-- The number in a register and the list of its bits.
use Rattle.std.proofs.Common.{◌≡◌, ℕ, zero, suc, ◌+◌, ◌-◌, ◌*◌, ◌/◌, ◌%◌, ◌^◌, ◌<◌, Bool, true, false, not, List, [], ◌∷◌, ◌++◌, length, replicate, refl, sym, ◌∙◌, ap, inl, inr, arith, leb}
use Rattle.std.specs.Prelude.{bit_xor, ◌==◌, map}
use Rattle.std.proofs.Math.Nat.{pow-suc}
use Rattle.std.proofs.lemmas.Bool.{cases_lt, le-leb, lt-leb, eq-eqb, ne_eqb}
use mathlib.Core.Bool.{beq}
use Rattle.std.proofs.lemmas.Nat.{xor_lt, shr-shr}
use Rattle.std.proofs.lemmas.Nat.Bits.{bit_at_xor}
use Rattle.std.proofs.lemmas.List.{length-map}
use Rattle.bit_strings.specs.NumbersInBits.{value_of, field_of}
use Rattle.bit_strings.specs.laws.NumbersInBits.{value_of-field, field_of-value_of, field_of-mod, same_from_value}
use Rattle.gen2_crc.specs.Crc.{differ, minus, divide, remainder_of, others5, preset5, others16, preset16, crc5_of, register_of, crc16_of, residue, RegisterStandsFor}
use Rattle.gen2_crc.specs.laws.CheckNumbers.{length-register_of, length-crc5_of}
use Rattle.gen2_crc.specs.laws.Division.{one-bit, left_of}
use Rattle.gen2_crc.proofs.DivisionSteps.{left_of-true, left_of-false, remainder_of-append}

parity : (a b : ℕ) → a < 2 → b < 2 → ((a + b) % 2 == 1) ≡ differ (a == 1) (b == 1)
parity zero zero p q = refl
parity zero (suc zero) p q = refl
parity (suc zero) zero p q = refl
parity (suc zero) (suc zero) p q = refl
parity zero (suc (suc b)) p q = absurd (omega arith)
parity (suc zero) (suc (suc b)) p q = absurd (omega arith)
parity (suc (suc a)) b p q = absurd (omega arith)

-- the bits of two numbers that differ
pub field_of-xor : (a b width : ℕ) → field_of (bit_xor a b) width ≡ minus (field_of a width) (field_of b width)
unfolding field_of
field_of-xor a b zero = refl
field_of-xor a b (suc places) =
    let bit : bit_xor a b / 2 ^ places % 2 ≡ (a / 2 ^ places % 2 + b / 2 ^ places % 2) % 2 = bit_at_xor a b places in
    rw (bit, parity (a / 2 ^ places % 2) (b / 2 ^ places % 2) (omega arith) (omega arith), field_of-xor a b places)

field_of-cons : (v width : ℕ) → field_of v (suc width) ≡ (v / 2 ^ width % 2 == 1) ∷ field_of v width
unfolding field_of
field_of-cons v width = refl

-- a number doubled has its bits one place further on, and a 0 behind them
pub field_of-double : (v width : ℕ) → field_of (2 * v) (suc width) ≡ field_of v width ++ false ∷ []
unfolding field_of
field_of-double v zero =
    let even : 2 * v / 1 % 2 ≡ 0 = omega arith in
    rw even
field_of-double v (suc width) =
    let bit : 2 * v / 2 ^ suc width ≡ v / 2 ^ width =
    let half : 2 * v / 2 ≡ v = omega arith in
    let one_more : suc width ≡ 1 + width = omega arith in
    ap (λ n. 2 * v / 2 ^ n) one_more ∙ sym (shr-shr (2 * v) 1 width) ∙ ap (λ n. n / 2 ^ width) half in
    rw (bit, field_of-double v width)

pub minus-front : (ys : List Bool) → minus (replicate (suc (length ys)) false) ys ≡ ys ++ false ∷ []
minus-front [] = refl
minus-front (y ∷ ys) = ap (λ (rest : List Bool). y ∷ rest) (minus-front ys)

doubled : (width v : ℕ) → field_of (2 * (v % 2 ^ width)) (suc width) ≡ minus (replicate (suc (length (field_of v width))) false) (field_of v width)
doubled width v = field_of-double (v % 2 ^ width) width ∙ ap (λ (bits : List Bool). bits ++ false ∷ []) (field_of-mod v width) ∙ sym (minus-front (field_of v width))

-- the register one bit later, where the bit that leaves and the message's bit differ and where they don't
pub step_differs : (width v others : ℕ) (bit : Bool) → differ bit (v / 2 ^ width % 2 == 1) ≡ true → field_of (bit_xor (2 * (v % 2 ^ width)) others) (suc width) ≡ remainder_of (field_of v (suc width)) (field_of others (suc width)) (bit ∷ [])
step_differs width v others bit top =
    let divisor : List Bool = field_of others (suc width) in
    let front : List Bool = minus (replicate (suc (length (field_of v width))) false) (field_of v width) in
    let left : left_of (differ bit (v / 2 ^ width % 2 == 1)) front divisor ≡ minus front divisor = ap (λ t. left_of t front divisor) top ∙ left_of-true front divisor in
    field_of-xor (2 * (v % 2 ^ width)) others (suc width) ∙ ap (λ (bits : List Bool). minus bits divisor) (doubled width v)
    ∙ sym left ∙ sym (one-bit (v / 2 ^ width % 2 == 1) bit (field_of v width) divisor)
    ∙ ap (λ (bits : List Bool). remainder_of bits divisor (bit ∷ [])) (sym (field_of-cons v width))

pub step_same : (width v others : ℕ) (bit : Bool) → differ bit (v / 2 ^ width % 2 == 1) ≡ false → field_of (2 * (v % 2 ^ width)) (suc width) ≡ remainder_of (field_of v (suc width)) (field_of others (suc width)) (bit ∷ [])
step_same width v others bit top =
    let divisor : List Bool = field_of others (suc width) in
    let front : List Bool = minus (replicate (suc (length (field_of v width))) false) (field_of v width) in
    let left : left_of (differ bit (v / 2 ^ width % 2 == 1)) front divisor ≡ front = ap (λ t. left_of t front divisor) top ∙ left_of-false front divisor in
    doubled width v
    ∙ sym left ∙ sym (one-bit (v / 2 ^ width % 2 == 1) bit (field_of v width) divisor)
    ∙ ap (λ (bits : List Bool). remainder_of bits divisor (bit ∷ [])) (sym (field_of-cons v width))

-- the test of the code
differ-test : (a b : Bool) → not (beq a b) ≡ differ b a
differ-test true true = refl
differ-test true false = refl
differ-test false true = refl
differ-test false false = refl

top-test16 : (v : ℕ) → v < 65536 → leb 32768 v ≡ (v / 32768 % 2 == 1)
top-test16 v fits =
    elim (cases_lt v 32768) [
      | inl small ↦ lt-leb 32768 v small ∙ sym (ne_eqb (v / 32768 % 2) 1 (λ one. omega arith))
      | inr large ↦ le-leb 32768 v large ∙ sym (eq-eqb (v / 32768 % 2) 1 (omega arith))
    ]

top-test5 : (v : ℕ) → v < 32 → leb 16 v ≡ (v / 16 % 2 == 1)
top-test5 v fits =
    elim (cases_lt v 16) [
      | inl small ↦ lt-leb 16 v small ∙ sym (ne_eqb (v / 16 % 2) 1 (λ one. omega arith))
      | inr large ↦ le-leb 16 v large ∙ sym (eq-eqb (v / 16 % 2) 1 (omega arith))
    ]

fields16 : field_of 4129 16 ≡ others16
unfolding field_of
fields16 = refl

fields5 : field_of 9 5 ≡ others5
unfolding field_of
fields5 = refl

pub differs16 : (v : ℕ) (bit : Bool) → v < 65536 → not (beq (leb 32768 v) bit) ≡ true → field_of (bit_xor (2 * (v % 32768)) 4129) 16 ≡ remainder_of (field_of v 16) others16 (bit ∷ [])
differs16 v bit fits test =
    step_differs 15 v 4129 bit (ap (λ (b : Bool). differ bit b) (sym (top-test16 v fits)) ∙ sym (differ-test (leb 32768 v) bit) ∙ test)
    ∙ ap (λ (divisor : List Bool). remainder_of (field_of v 16) divisor (bit ∷ [])) fields16

pub same16 : (v : ℕ) (bit : Bool) → v < 65536 → not (beq (leb 32768 v) bit) ≡ false → field_of (2 * (v % 32768)) 16 ≡ remainder_of (field_of v 16) others16 (bit ∷ [])
same16 v bit fits test =
    step_same 15 v 4129 bit (ap (λ (b : Bool). differ bit b) (sym (top-test16 v fits)) ∙ sym (differ-test (leb 32768 v) bit) ∙ test)
    ∙ ap (λ (divisor : List Bool). remainder_of (field_of v 16) divisor (bit ∷ [])) fields16

pub differs5 : (v : ℕ) (bit : Bool) → v < 32 → not (beq (leb 16 v) bit) ≡ true → field_of (bit_xor (2 * (v % 16)) 9) 5 ≡ remainder_of (field_of v 5) others5 (bit ∷ [])
differs5 v bit fits test =
    step_differs 4 v 9 bit (ap (λ (b : Bool). differ bit b) (sym (top-test5 v fits)) ∙ sym (differ-test (leb 16 v) bit) ∙ test)
    ∙ ap (λ (divisor : List Bool). remainder_of (field_of v 5) divisor (bit ∷ [])) fields5

pub same5 : (v : ℕ) (bit : Bool) → v < 32 → not (beq (leb 16 v) bit) ≡ false → field_of (2 * (v % 16)) 5 ≡ remainder_of (field_of v 5) others5 (bit ∷ [])
same5 v bit fits test =
    step_same 4 v 9 bit (ap (λ (b : Bool). differ bit b) (sym (top-test5 v fits)) ∙ sym (differ-test (leb 16 v) bit) ∙ test)
    ∙ ap (λ (divisor : List Bool). remainder_of (field_of v 5) divisor (bit ∷ [])) fields5

pub differs5-small : (v : ℕ) → bit_xor (2 * (v % 16)) 9 < 32
differs5-small v = xor_lt 5 (2 * (v % 16)) 9 (omega arith) (omega arith)

-- before the first bit
pub stands_none : RegisterStandsFor 65535 []
unfolding register_of divide
stands_none = record { is_remainder = refl }

pub register_of-push : (bits : List Bool) (bit : Bool) → register_of (bits ++ bit ∷ []) ≡ remainder_of (register_of bits) others16 (bit ∷ [])
unfolding register_of
register_of-push bits bit = remainder_of-append preset16 others16 bits (bit ∷ []) (omega arith) (omega arith)

-- the bits of the number that stands for a list
pub stands-field : (register : ℕ) (bits : List Bool) → RegisterStandsFor register bits → field_of register 16 ≡ register_of bits
stands-field register bits stands =
    ap (λ n. field_of n 16) stands.is_remainder ∙ ap (λ w. field_of (value_of (register_of bits)) w) (sym (length-register_of bits)) ∙ field_of-value_of (register_of bits)

pub stands_more : (register result : ℕ) (bits : List Bool) (bit : Bool) → result < 65536 → RegisterStandsFor register bits → field_of result 16 ≡ remainder_of (field_of register 16) others16 (bit ∷ []) → RegisterStandsFor result (bits ++ bit ∷ [])
stands_more register result bits bit fits stands step = record {
  is_remainder =
      sym (value_of-field result 16 fits)
      ∙ ap value_of (step ∙ ap (λ (r : List Bool). remainder_of r others16 (bit ∷ [])) (stands-field register bits stands) ∙ sym (register_of-push bits bit));
}

value_of-not : (bits : List Bool) → value_of (map not bits) + value_of bits + 1 ≡ 2 ^ length bits
value_of-not [] = refl
value_of-not (true ∷ bits) = omega (arith, value_of-not bits, length-map bits not, pow-suc 2 (length bits))
value_of-not (false ∷ bits) = rw (length-map bits not) (omega (arith, value_of-not bits, pow-suc 2 (length bits)))

-- the complement
pub stands_value : (register : ℕ) (bits : List Bool) → RegisterStandsFor register bits → 65535 - register ≡ value_of (crc16_of bits)
unfolding crc16_of
stands_value register bits stands =
    let power : 2 ^ length (register_of bits) ≡ 65536 = ap (λ n. 2 ^ n) (length-register_of bits) in
    omega (arith, value_of-not (register_of bits), stands.is_remainder)

pub stands_residue : (register : ℕ) (bits : List Bool) → RegisterStandsFor register bits → (register ≡ 7439 → register_of bits ≡ residue) × (register_of bits ≡ residue → register ≡ 7439)
stands_residue register bits stands =
    (λ same. same_from_value (register_of bits) residue (length-register_of bits) (sym stands.is_remainder ∙ same), λ same. stands.is_remainder ∙ ap value_of same)

-- the register of CRC-5
pub crc5_of-none : 9 ≡ value_of (crc5_of [])
unfolding crc5_of divide
crc5_of-none = refl

pub crc5_more : (register result : ℕ) (bits : List Bool) (bit : Bool) → result < 32 → register ≡ value_of (crc5_of bits) → field_of result 5 ≡ remainder_of (field_of register 5) others5 (bit ∷ []) → result ≡ value_of (crc5_of (bits ++ bit ∷ []))
unfolding crc5_of
crc5_more register result bits bit fits so_far step =
    let held : field_of register 5 ≡ crc5_of bits =
    ap (λ n. field_of n 5) so_far ∙ ap (λ w. field_of (value_of (crc5_of bits)) w) (sym (length-crc5_of bits)) ∙ field_of-value_of (crc5_of bits) in
    let more : crc5_of (bits ++ bit ∷ []) ≡ remainder_of (crc5_of bits) others5 (bit ∷ []) = remainder_of-append preset5 others5 bits (bit ∷ []) (omega arith) (omega arith) in
    sym (value_of-field result 5 fits) ∙ ap value_of (step ∙ ap (λ (r : List Bool). remainder_of r others5 (bit ∷ [])) held ∙ sym more)
