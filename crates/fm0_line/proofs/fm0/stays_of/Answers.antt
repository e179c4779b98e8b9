-- The word that is shifted has the level before each level.
use Rattle.std.proofs.Common.{◌≡◌, ◌∙◌, ◌-◌, ◌*◌, ◌+◌, ◌%◌, ◌<◌, ◌^◌, ℕ, Bool, true, false, List, length, ap, ap₂, refl, arith}
use Rattle.std.specs.Prelude.{bit_or, bit_xor}
use Rattle.std.specs.Simd.Lanes.{mask_l}
use Rattle.std.proofs.Math.Bool.{cond}
use Rattle.std.proofs.lemmas.Nat.{or_shifted}
use Rattle.fm0_line.specs.Stays.{stays}
use Rattle.fm0_line.proofs.Places.{compared, digit_lt}
use Rattle.fm0_line.proofs.fm0.stays_of.Goals as goal
use mir.Val.{bool_byte}

byte_is : (bit : Bool) → bool_byte bit ≡ cond bit 1 0
byte_is true = refl
byte_is false = refl

shifted : (word digit : ℕ) → digit < 2 ^ 1 → bit_or (word * 2 % 4294967296) digit ≡ (word * 2 + digit) % 4294967296
shifted word digit small =
    let cut : word * 2 % 4294967296 ≡ word % 2147483648 * 2 ^ 1 = omega arith in
    let whole : word % 2147483648 * 2 ^ 1 + digit ≡ (word * 2 + digit) % 4294967296 = omega (arith, small) in
    ap (λ (n : ℕ). bit_or n digit) cut ∙ or_shifted (word % 2147483648) 1 digit small ∙ whole

word_stays : (word digit : ℕ) (before : Bool) (levels : List Bool) → length levels ≡ 32 → word ≡ mask_l levels → digit ≡ bool_byte before
    → 4294967295 - bit_xor word (bit_or (word * 2 % 4294967296) digit) ≡ mask_l (stays before levels)
word_stays word digit before levels long is digit_is =
    let last = cond before 1 0 in
    let befores : bit_or (word * 2 % 4294967296) digit ≡ (mask_l levels * 2 + last) % 4294967296 =
    ap (λ (n : ℕ). bit_or (word * 2 % 4294967296) n) (digit_is ∙ byte_is before) ∙ shifted word last (digit_lt before) ∙ ap (λ (n : ℕ). (n * 2 + last) % 4294967296) is in
    let changes : bit_xor word (bit_or (word * 2 % 4294967296) digit) ≡ bit_xor (mask_l levels) ((mask_l levels * 2 + last) % 4294967296) = ap₂ bit_xor is befores in
    omega (arith, changes, compared 32 before levels long)

pub returns : goal.returns
returns c = λ levels long is. word_stays c.args.word c.from.result c.args.before levels long is c.from.ensures
