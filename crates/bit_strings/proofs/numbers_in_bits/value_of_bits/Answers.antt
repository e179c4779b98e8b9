use Rattle.std.proofs.Common.{get_or, false, arith}
use Rattle.bit_strings.proofs.Digits.{value_of-take_below, digits_more, byte_small}
use Rattle.bit_strings.proofs.numbers_in_bits.value_of_bits.Goals as goal

pub overflow_mul-value : goal.overflow_mul-value
overflow_mul-value c = omega (arith, value_of-take_below c.args.bits.now c.loop-bit.bit-index c.requires c.loop-bit-test.true)

pub overflow_add-value : goal.overflow_add-value
overflow_add-value c =
    omega (arith, value_of-take_below c.args.bits.now c.loop-bit.bit-index c.requires c.loop-bit-test.true, byte_small (get_or c.args.bits.now c.loop-bit.bit-index false))

pub loop-bit-preserved : goal.loop-bit-preserved
loop-bit-preserved c =
    digits_more c.args.bits.now c.loop-bit.bit-index c.loop-bit.value c.from.result c.loop-bit-test.true c.loop-bit.invariant c.from.ensures
