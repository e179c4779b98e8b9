use Rattle.std.proofs.Common.{ap, length, length-append, arith}
use Rattle.bit_strings.specs.BitString.{BitString}
use Rattle.bit_strings.specs.NumbersInBits.{field_of}
use Rattle.bit_strings.specs.laws.NumbersInBits.{length-field_of}
use Rattle.command_grammar.proofs.writing.put_word.Goals as goal

pub returns-clause-count : goal.returns-clause-count
returns-clause-count c =
    omega (arith, ap (λ (bits : BitString). length bits.items) c.put_u16_reserved.ensures, length-append c.args.out.now.items (field_of c.args.word 16), length-field_of c.args.word 16)
