use Rattle.std.proofs.Common.{◌≡◌, ◌∙◌, ◌/◌, ◌<◌, ℕ, Bool, true, false, List, length, get_or, ap, sym, arith}
use Rattle.std.specs.Prelude.{bit_and}
use Rattle.std.specs.Simd.Lanes.{mask_l}
use Rattle.std.proofs.Math.Bool.{cond}
use Rattle.std.proofs.lemmas.Simd.{bit_mask_l}
use Rattle.fm0_line.specs.Stays.{stays}
use Rattle.fm0_line.proofs.Places.{none_set, length-stays}
use Rattle.fm0_line.proofs.Symbols.{are_read}
use Rattle.fm0_line.proofs.fm0.Fm0LineCode.sixteen_bits.Goals as goal
use lib.Dec.{eqb}

told : (bit : Bool) (digit : ℕ) → digit ≡ cond bit 1 0 → eqb digit 1 ≡ bit
told true digit is = rw is
told false digit is = rw is

-- the highest bit of a word is its last level
last_level : (word : ℕ) (levels : List Bool) → word < 4294967296 → word ≡ mask_l levels → eqb (word / 2147483648) 1 ≡ get_or levels 31 false
last_level word levels small is = told (get_or levels 31 false) (word / 2147483648) (omega (arith, small, is, bit_mask_l levels 31))

pub returns : goal.returns
returns c =
    let levels = c.args.levels.now in
    let phase = c.args.mark.last_level in
    let size : length levels ≡ 32 = c.requires in
    let word_is : c.word_of-word.result ≡ mask_l levels = c.word_of-word.ensures in
    let stays_are = c.stays_of-stays.ensures levels size word_is in
    let many : length (stays phase levels) ≡ 32 = length-stays phase levels ∙ size in
    let none = none_set 16 (stays phase levels) many (ap (λ (word : ℕ). bit_and word 1431655765) (sym stays_are) ∙ c.if-stays-ne0.false) in
    let bits = c.bits_of_middles-bits in
    let read = are_read c.args.mark.bit phase levels bits.result size none (bits.ensures (stays phase levels) many stays_are) in
    (read.0, ap (λ (level : Bool). record { before = get_or bits.result 15 false; phase = level }) (last_level c.word_of-word.result levels c.word_of-word.type_inv word_is) ∙ read.1)
