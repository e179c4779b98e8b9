-- The register 16 and 8 bits at a time: what so many steps make of it is linear, and is compared on its two bytes.
use Rattle.std.proofs.Common.{◌≡◌, ℕ, zero, suc, ◌+◌, ◌-◌, ◌*◌, ◌/◌, ◌%◌, ◌^◌, ◌<◌, ◌≤◌, Bool, true, false, List, [], ◌∷◌, ◌++◌, length, take, drop, get_or, length-append, length-take, length-drop, replicate, refl, sym, ◌∙◌, ap, inl, inr, arith, pow_pos}
use Rattle.std.specs.Prelude.{bit_xor}
use Rattle.std.proofs.lemmas.Bool.{cases_lt, le-leb, lt-leb, eqb-true, agree_below_at}
use Rattle.std.proofs.lemmas.Nat.{xor_lt, xor_shr, xor_mod, xor_block, xor_comm}
use Rattle.std.specs.Int.Bits.{xor_assoc, xor_zero_l, xor_zero_r}
use Rattle.bit_strings.specs.NumbersInBits.{value_of, field_of}
use Rattle.bit_strings.specs.laws.NumbersInBits.{length-field_of, value_of-field, value_of-append, field_of-value_of, same_from_value}
use Rattle.gen2_crc.specs.Crc.{minus, remainder_of, others16, preset16, RegisterStandsFor, register_of}
use Rattle.gen2_crc.specs.declared.tables.TheConstants.{BEHIND_LOWER, BEHIND_UPPER}
use Rattle.gen2_crc.specs.laws.Division.{first-bit, remainder_of-none}
use Rattle.gen2_crc.proofs.DivisionSteps.{remainder_of-append}
use Rattle.gen2_crc.proofs.Registers.{field_of-xor, differs16, same16, stands-field}
use Rattle.gen2_crc.proofs.Residue.{taken_off, octet_taken_off}
use Rattle.std.specs.List.{slice_range}
use Rattle.std.proofs.Math.Seq.{take-add}
use lib.Dec.{eqb}

-- a function that takes differences to differences
abbrev IsLinear : (ℕ → ℕ) → Type 0
IsLinear f = (a b : ℕ) → f (bit_xor a b) ≡ bit_xor (f a) (f b)

crossed : (a b c d : ℕ) → bit_xor (bit_xor a b) (bit_xor c d) ≡ bit_xor (bit_xor a c) (bit_xor b d)
crossed a b c d =
    xor_assoc a b (bit_xor c d)
    ∙ ap (λ n. bit_xor a n) (sym (xor_assoc b c d) ∙ ap (λ n. bit_xor n d) (xor_comm b c) ∙ xor_assoc c b d)
    ∙ sym (xor_assoc a c (bit_xor b d))

linear_both : (f g : ℕ → ℕ) → IsLinear f → IsLinear g → IsLinear (λ x. bit_xor (f x) (g x))
linear_both f g p q a b =
    ap (λ n. bit_xor n (g (bit_xor a b))) (p a b) ∙ ap (λ n. bit_xor (bit_xor (f a) (f b)) n) (q a b) ∙ crossed (f a) (f b) (g a) (g b)

linear_then : (f g : ℕ → ℕ) → IsLinear f → IsLinear g → IsLinear (λ x. g (f x))
linear_then f g p q a b = ap g (p a b) ∙ q (f a) (f b)

linear_same : IsLinear (λ x. x)
linear_same a b = refl

linear_shr : (k : ℕ) → IsLinear (λ x. x / 2 ^ k)
linear_shr k a b = xor_shr a b k

linear_low : (k : ℕ) → IsLinear (λ x. x % 2 ^ k)
linear_low k a b = xor_mod a b k

linear_times : (k : ℕ) → IsLinear (λ x. x * 2 ^ k)
linear_times k a b =
    let block : bit_xor (a * 2 ^ k + 0) (b * 2 ^ k + 0) ≡ bit_xor a b * 2 ^ k + bit_xor 0 0 = xor_block k a b 0 0 (omega (arith, pow_pos k)) (omega (arith, pow_pos k)) in
    let left : a * 2 ^ k + 0 ≡ a * 2 ^ k = omega arith in
    let right : b * 2 ^ k + 0 ≡ b * 2 ^ k = omega arith in
    let whole : bit_xor a b * 2 ^ k + bit_xor 0 0 ≡ bit_xor a b * 2 ^ k = omega arith in
    sym whole ∙ sym block ∙ ap (λ n. bit_xor n (b * 2 ^ k + 0)) left ∙ ap (λ n. bit_xor (a * 2 ^ k) n) right

-- the register one 0 later
abbrev shift : ℕ → ℕ
shift register = bit_xor (register % 32768 * 2) (4129 * (register / 32768 % 2))

coefficients_taken : (a b : ℕ) → a < 2 → b < 2 → 4129 * bit_xor a b ≡ bit_xor (4129 * a) (4129 * b)
coefficients_taken zero zero p q = refl
coefficients_taken zero (suc zero) p q = refl
coefficients_taken (suc zero) zero p q = refl
coefficients_taken (suc zero) (suc zero) p q = refl
coefficients_taken zero (suc (suc b)) p q = absurd (omega arith)
coefficients_taken (suc zero) (suc (suc b)) p q = absurd (omega arith)
coefficients_taken (suc (suc a)) b p q = absurd (omega arith)

linear_shift : IsLinear shift
linear_shift =
    linear_both (λ x. x % 32768 * 2) (λ x. 4129 * (x / 32768 % 2))
    (linear_then (λ x. x % 2 ^ 15) (λ x. x * 2 ^ 1) (linear_low 15) (linear_times 1))
    (λ a b. ap (λ n. 4129 * n) (linear_then (λ x. x / 2 ^ 15) (λ x. x % 2 ^ 1) (linear_shr 15) (linear_low 1) a b)
    ∙ coefficients_taken (a / 32768 % 2) (b / 32768 % 2) (omega arith) (omega arith))

shift_below : (register : ℕ) → shift register < 65536
shift_below register = xor_lt 16 (register % 32768 * 2) (4129 * (register / 32768 % 2)) (omega arith) (omega arith)

shift_is : (register : ℕ) → register < 65536 → field_of (shift register) 16 ≡ remainder_of (field_of register 16) others16 (false ∷ [])
shift_is register fits =
    let double : register % 32768 * 2 ≡ 2 * (register % 32768) = omega arith in
    elim (cases_lt register 32768) [
      | inl small ↦
          let top : register / 32768 % 2 ≡ 0 = omega arith in
          rw (double, top, xor_zero_r (2 * (register % 32768))) (same16 register false fits (rw (lt-leb 32768 register small)))
      | inr large ↦
          let top : register / 32768 % 2 ≡ 1 = omega arith in
          rw (double, top) (differs16 register false fits (rw (le-leb 32768 register large)))
    ]

-- ... and so many later
abbrev shifts : ℕ → ℕ → ℕ
shifts zero register = register
shifts (suc n) register = shifts n (shift register)

linear_shifts : (n : ℕ) → IsLinear (shifts n)
linear_shifts zero = linear_same
linear_shifts (suc n) = linear_then shift (shifts n) linear_shift (linear_shifts n)

shifts_are : (n register : ℕ) → register < 65536 → field_of (shifts n register) 16 ≡ remainder_of (field_of register 16) others16 (replicate n false)
shifts_are zero register fits = sym (remainder_of-none (field_of register 16) others16)
shifts_are (suc n) register fits =
    shifts_are n (shift register) (shift_below register)
    ∙ ap (λ (bits : List Bool). remainder_of bits others16 (replicate n false)) (shift_is register fits)
    ∙ sym (first-bit (field_of register 16) others16 false (replicate n false) (omega (arith, length-field_of register 16)) (omega (arith, length-field_of register 16)))

-- the tables have what 16 zeros make of each byte
agree_low : (n : ℕ) → n < 256 → get_or BEHIND_LOWER n 0 ≡ shifts 16 n
agree_low n within = eqb-true (get_or BEHIND_LOWER n 0) (shifts 16 n) (agree_below_at (λ k. eqb (get_or BEHIND_LOWER k 0) (shifts 16 k)) (λ k. true) 256 n refl within)

agree_high : (n : ℕ) → n < 256 → get_or BEHIND_UPPER n 0 ≡ shifts 16 (n * 256)
agree_high n within =
    eqb-true (get_or BEHIND_UPPER n 0) (shifts 16 (n * 256)) (agree_below_at (λ k. eqb (get_or BEHIND_UPPER k 0) (shifts 16 (k * 256))) (λ k. true) 256 n refl within)

two_bytes : (x : ℕ) → bit_xor (x / 256 * 256) (x % 256) ≡ x
two_bytes x =
    let block : bit_xor (x / 256 * 2 ^ 8 + 0) (0 * 2 ^ 8 + x % 256) ≡ bit_xor (x / 256) 0 * 2 ^ 8 + bit_xor 0 (x % 256) = xor_block 8 (x / 256) 0 0 (x % 256) (omega arith) (omega arith) in
    let left : x / 256 * 2 ^ 8 + 0 ≡ x / 256 * 256 = omega arith in
    let right : 0 * 2 ^ 8 + x % 256 ≡ x % 256 = omega arith in
    sym (ap (λ n. bit_xor n (0 * 2 ^ 8 + x % 256)) left ∙ ap (λ n. bit_xor (x / 256 * 256) n) right) ∙ block
    ∙ omega (arith, xor_zero_r (x / 256), xor_zero_l (x % 256))

-- what the code makes of the register for 16 zeros
by_bytes_is : (x : ℕ) → x < 65536 → bit_xor (get_or BEHIND_UPPER (x / 256) 0) (get_or BEHIND_LOWER (x % 256) 0) ≡ shifts 16 x
by_bytes_is x fits =
    ap (λ n. bit_xor n (get_or BEHIND_LOWER (x % 256) 0)) (agree_high (x / 256) (omega arith))
    ∙ ap (λ n. bit_xor (shifts 16 (x / 256 * 256)) n) (agree_low (x % 256) (omega arith))
    ∙ sym (linear_shifts 16 (x / 256 * 256) (x % 256)) ∙ ap (shifts 16) (two_bytes x)

pub word_later : (register : ℕ) → register < 65536 → field_of (bit_xor (get_or BEHIND_UPPER (register / 256) 0) (get_or BEHIND_LOWER (register % 256) 0)) 16 ≡ remainder_of (field_of register 16) others16 (replicate 16 false)
word_later register fits = ap (λ n. field_of n 16) (by_bytes_is register fits) ∙ shifts_are 16 register fits

-- ... and of 8 zeros
octet_high : (n : ℕ) → n < 256 → get_or BEHIND_LOWER n 0 ≡ shifts 8 (n * 256)
octet_high n within =
    eqb-true (get_or BEHIND_LOWER n 0) (shifts 8 (n * 256)) (agree_below_at (λ k. eqb (get_or BEHIND_LOWER k 0) (shifts 8 (k * 256))) (λ k. true) 256 n refl within)

octet_low : (n : ℕ) → n < 256 → 256 * n ≡ shifts 8 n
octet_low n within = eqb-true (256 * n) (shifts 8 n) (agree_below_at (λ k. eqb (256 * k) (shifts 8 k)) (λ k. true) 256 n refl within)

by_octet_is : (x : ℕ) → x < 65536 → bit_xor (get_or BEHIND_LOWER (x / 256) 0) (256 * (x % 256)) ≡ shifts 8 x
by_octet_is x fits =
    ap (λ n. bit_xor n (256 * (x % 256))) (octet_high (x / 256) (omega arith))
    ∙ ap (λ n. bit_xor (shifts 8 (x / 256 * 256)) n) (octet_low (x % 256) (omega arith))
    ∙ sym (linear_shifts 8 (x / 256 * 256) (x % 256)) ∙ ap (shifts 8) (two_bytes x)

pub octet_later : (register : ℕ) → register < 65536 → field_of (bit_xor (get_or BEHIND_LOWER (register / 256) 0) (256 * (register % 256))) 16 ≡ remainder_of (field_of register 16) others16 (replicate 8 false)
octet_later register fits = ap (λ n. field_of n 16) (by_octet_is register fits) ∙ shifts_are 8 register fits

-- a register with a word more, where what it differs in from the word is shifted by 16 zeros
pub record IsShifted (register word result : ℕ) : Type 0 where
  pub fits : result < 65536
  pub later : field_of result 16 ≡ remainder_of (field_of (bit_xor register word) 16) others16 (replicate 16 false)

pub stands_word : (register word result : ℕ) (bits : List Bool) → IsShifted register word result → RegisterStandsFor register bits → RegisterStandsFor result (bits ++ field_of word 16)
unfolding register_of
stands_word register word result bits shifted stands =
    let held : field_of register 16 ≡ register_of bits = stands-field register bits stands in
    let last : List Bool = field_of word 16 in
    let apart : field_of (bit_xor register word) 16 ≡ minus last (field_of register 16) = ap (λ n. field_of n 16) (xor_comm register word) ∙ field_of-xor word register 16 in
    let whole : field_of result 16 ≡ register_of (bits ++ last) =
    shifted.later
    ∙ ap (λ (r : List Bool). remainder_of r others16 (replicate 16 false)) apart
    ∙ sym (taken_off (field_of register 16) last (length-field_of register 16) (length-field_of word 16))
    ∙ ap (λ (r : List Bool). remainder_of r others16 last) held
    ∙ sym (remainder_of-append preset16 others16 bits last (omega arith) (omega arith)) in
    record { is_remainder = sym (value_of-field result 16 shifted.fits) ∙ ap value_of whole }

-- eight places further on, the bits of a number have zeros behind them
field_of-octet : (octet : ℕ) → octet < 256 → field_of (256 * octet) 16 ≡ field_of octet 8 ++ replicate 8 false
field_of-octet octet fits =
    let zeros : List Bool = replicate 8 false in
    let times : octet * 256 + 0 ≡ 256 * octet = omega arith in
    same_from_value (field_of (256 * octet) 16) (field_of octet 8 ++ zeros)
    (length-field_of (256 * octet) 16 ∙ sym (length-append (field_of octet 8) zeros ∙ ap (λ n. n + 8) (length-field_of octet 8)))
    (value_of-field (256 * octet) 16 (omega (arith, fits)) ∙ sym (value_of-append (field_of octet 8) zeros ∙ ap (λ n. n * 256 + 0) (value_of-field octet 8 (omega (arith, fits))) ∙ times))

-- a register with an octet more, where what it differs in from the octet's bits is shifted by 8 zeros
pub record IsShiftedByOctet (register octet result : ℕ) : Type 0 where
  pub fits : result < 65536
  pub later : field_of result 16 ≡ remainder_of (field_of (bit_xor register (256 * octet)) 16) others16 (replicate 8 false)

pub stands_octet : (register octet result : ℕ) (bits : List Bool) → octet < 256 → IsShiftedByOctet register octet result → RegisterStandsFor register bits → RegisterStandsFor result (bits ++ field_of octet 8)
unfolding register_of
stands_octet register octet result bits small shifted stands =
    let held : field_of register 16 ≡ register_of bits = stands-field register bits stands in
    let last : List Bool = field_of octet 8 in
    let apart : field_of (bit_xor register (256 * octet)) 16 ≡ minus (last ++ replicate 8 false) (field_of register 16) =
    ap (λ n. field_of n 16) (xor_comm register (256 * octet)) ∙ field_of-xor (256 * octet) register 16 ∙ ap (λ (l : List Bool). minus l (field_of register 16)) (field_of-octet octet small) in
    let whole : field_of result 16 ≡ register_of (bits ++ last) =
    shifted.later
    ∙ ap (λ (r : List Bool). remainder_of r others16 (replicate 8 false)) apart
    ∙ sym (octet_taken_off (field_of register 16) last (length-field_of register 16) (length-field_of octet 8))
    ∙ ap (λ (r : List Bool). remainder_of r others16 last) held
    ∙ sym (remainder_of-append preset16 others16 bits last (omega arith) (omega arith)) in
    record { is_remainder = sym (value_of-field result 16 shifted.fits) ∙ ap value_of whole }

-- the next 16 bits of a list, as the word that they are
pub word_more : (bits : List Bool) (at word : ℕ) → 16 * at + 16 ≤ length bits → word ≡ value_of (slice_range bits (16 * at) (16 * at + 16)) → take (16 * at) bits ++ field_of word 16 ≡ take (16 * (at + 1)) bits
word_more bits at word within read =
    let count : 16 * at + 16 - 16 * at ≡ 16 = omega arith in
    let next : List Bool = take 16 (drop (16 * at) bits) in
    let long : length next ≡ 16 = omega (arith, length-take 16 (drop (16 * at) bits), length-drop (16 * at) bits) in
    let same : field_of word 16 ≡ next =
    ap (λ n. field_of n 16) (read ∙ ap (λ n. value_of (take n (drop (16 * at) bits))) count)
    ∙ ap (λ w. field_of (value_of next) w) (sym long) ∙ field_of-value_of next in
    let end : 16 * at + 16 ≡ 16 * (at + 1) = omega arith in
    ap (λ (word_bits : List Bool). take (16 * at) bits ++ word_bits) same ∙ sym (take-add (16 * at) 16 bits) ∙ ap (λ n. take n bits) end
