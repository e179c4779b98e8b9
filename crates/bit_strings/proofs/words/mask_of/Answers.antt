use Rattle.std.proofs.Common.{arith}
use Rattle.bit_strings.specs.laws.NumbersInBits.{value_of-within}
use Rattle.bit_strings.proofs.Masks.{lane, value_of-sixteen}
use Rattle.bit_strings.proofs.words.mask_of.Goals as goal

pub returns : goal.returns
returns c = omega (
  arith,
  value_of-within c.args.bits.now 16 (omega arith),
  value_of-sixteen c.args.bits.now c.requires,
  lane c.args.bits.now 15 c.from.result c.from.ensures,
  lane c.args.bits.now 14 c.from-2.result c.from-2.ensures,
  lane c.args.bits.now 13 c.from-3.result c.from-3.ensures,
  lane c.args.bits.now 12 c.from-4.result c.from-4.ensures,
  lane c.args.bits.now 11 c.from-5.result c.from-5.ensures,
  lane c.args.bits.now 10 c.from-6.result c.from-6.ensures,
  lane c.args.bits.now 9 c.from-7.result c.from-7.ensures,
  lane c.args.bits.now 8 c.from-8.result c.from-8.ensures,
  lane c.args.bits.now 7 c.from-9.result c.from-9.ensures,
  lane c.args.bits.now 6 c.from-10.result c.from-10.ensures,
  lane c.args.bits.now 5 c.from-11.result c.from-11.ensures,
  lane c.args.bits.now 4 c.from-12.result c.from-12.ensures,
  lane c.args.bits.now 3 c.from-13.result c.from-13.ensures,
  lane c.args.bits.now 2 c.from-14.result c.from-14.ensures,
  lane c.args.bits.now 1 c.from-15.result c.from-15.ensures,
  lane c.args.bits.now 0 c.from-16.result c.from-16.ensures,
)
