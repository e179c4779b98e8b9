use Rattle.std.proofs.Common.{◌≡◌, take}
use Rattle.bit_strings.specs.NumbersInBits.{value_of}
use Rattle.bit_strings.proofs.numbers_in_bits.value_of_bits.Given as goal

abbrev pub invariant-loop-bit : goal.invariant-loop-bit
invariant-loop-bit l = l.value ≡ value_of (take l.bit-index l.bits)
