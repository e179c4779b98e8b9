use Rattle.std.proofs.Common.{◌++◌, ◌∙◌, ap, List, Bool, arith}
use Rattle.bit_strings.specs.NumbersInBits.{value_of}
use Rattle.gen2_crc.specs.Crc.{crc5_of}
use Rattle.gen2_crc.specs.laws.CheckNumbers.{crc5_of-below}
use Rattle.command_grammar.proofs.CheckNumbers.{crc5-field}
use Rattle.command_grammar.proofs.writing.put_crc5.Goals as goal

pub returns-clause-items : goal.returns-clause-items
returns-clause-items c =
    c.put.ensures.items
    ∙ ap (λ (l : List Bool). c.args.out.now.items ++ l) (crc5-field c.args.out.now.items c.from.result (c.from.ensures ∙ c.crc5_of_bits-check.ensures ∙ ap (λ (l : List Bool). value_of (crc5_of l)) c.as_slice.ensures.value))

pub put-requires-clause-fits : goal.put-requires-clause-fits
put-requires-clause-fits c = omega (arith, c.from.ensures, c.crc5_of_bits-check.ensures, crc5_of-below c.as_slice.result.now)
