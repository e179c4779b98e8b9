use Rattle.std.proofs.Common.{ap, length, length-append, arith}
use Rattle.bit_strings.specs.BitString.{BitString}
use Rattle.bit_strings.specs.NumbersInBits.{field_of}
use Rattle.bit_strings.specs.laws.NumbersInBits.{length-field_of}
use Rattle.command_grammar.proofs.writing.put.Goals as goal

pub returns-clause-count : goal.returns-clause-count
returns-clause-count c =
    omega (arith, ap (λ (bits : BitString). length bits.items) c.put_field_reserved.ensures, length-append c.args.out.now.items (field_of c.args.value c.args.width), length-field_of c.args.value c.args.width)
