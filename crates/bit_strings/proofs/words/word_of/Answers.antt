use Rattle.std.proofs.Common.{arith}
use Rattle.bit_strings.specs.laws.NumbersInBits.{value_of-within}
use Rattle.bit_strings.proofs.words.word_of.Goals as goal

pub overflow_cast-result : goal.overflow_cast-result
overflow_cast-result c = omega (arith, value_of-within c.args.bits.now 16 (omega arith))
