use Rattle.std.proofs.Common.{ap, length, arith}
use Rattle.std.proofs.lemmas.List.{length-map}
use Rattle.bit_strings.specs.NumbersInBits.{digit_of, field_of}
use Rattle.bit_strings.specs.laws.NumbersInBits.{length-field_of}
use Rattle.bit_strings.proofs.Masks.{all_written}
use Rattle.bit_strings.proofs.words.bits_of.Goals as goal

pub returns : goal.returns
returns c =
    all_written c.loop-at.bits (field_of c.args.word 16) c.digits_of-digits.result c.loop-at.at (omega (arith, c.loop-at.invariant.count))
    (omega (arith, ap length c.digits_of-digits.ensures, length-map (field_of c.args.word 16) digit_of, length-field_of c.args.word 16))
    c.loop-at.invariant.written c.digits_of-digits.ensures
