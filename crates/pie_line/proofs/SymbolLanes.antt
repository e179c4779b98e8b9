-- The symbols of some bits, each from its lanes of a vector.
use Rattle.std.proofs.Common.{◌≡◌, ℕ, ◌+◌, ◌-◌, ◌*◌, ◌%◌, ◌≤◌, ◌<◌, Bool, true, false, List, [], ◌∷◌, get_or, length, refl, ap, arith}
use Rattle.std.specs.Prelude.{if◌then◌else◌}
use Rattle.std.specs.Simd.Lanes.{pick_l}
use Rattle.std.specs.List.{range_with_len}
use Rattle.std.proofs.lemmas.Simd.{pick_l_whole}
use Rattle.pie_line.specs.Pie.{symbols_with}
use mir.Val.{bool_byte}

lane_of : (bit : Bool) (high_0 high_1 : ℕ) → high_0 ≤ high_1 → high_1 < 4294967296
    → (high_0 + bool_byte bit * (high_1 - high_0) % 4294967296) % 4294967296 ≡ if bit then high_1 else high_0
lane_of true high_0 high_1 order fits = omega (arith, order, fits)
lane_of false high_0 high_1 order fits = omega (arith, order, fits)

-- the high of the bit at a place
pub high_lane : (bits : List Bool) (high_0 high_1 : ℕ) → high_0 ≤ high_1 → high_1 < 4294967296 → (at digit : ℕ) → digit ≡ bool_byte (get_or bits at false)
    → (high_0 + digit * (high_1 - high_0) % 4294967296) % 4294967296 ≡ if get_or bits at false then high_1 else high_0
high_lane bits high_0 high_1 order fits at digit read = rw read (lane_of (get_or bits at false) high_0 high_1 order fits)

-- its low
pub low_lane : (low : ℕ) → low < 4294967296 → (digit : ℕ) → (low + digit * 0 % 4294967296) % 4294967296 ≡ low
low_lane low fits digit = omega (arith, fits)

-- the symbols of eight bits, each by its place
pub symbols-eight : (high_0 high_1 low : ℕ) (bits : List Bool) → length bits ≡ 8
    → symbols_with high_0 high_1 low (pick_l false bits (range_with_len 0 8)) ≡ symbols_with high_0 high_1 low bits
symbols-eight high_0 high_1 low bits long = ap (symbols_with high_0 high_1 low) (pick_l_whole false bits 8 long)

-- two intervals for each bit
pub length-symbols_with : (high_0 high_1 low : ℕ) (bits : List Bool) → length (symbols_with high_0 high_1 low bits) ≡ 2 * length bits
length-symbols_with high_0 high_1 low [] = refl
length-symbols_with high_0 high_1 low (bit ∷ bits) = omega (arith, length-symbols_with high_0 high_1 low bits)
