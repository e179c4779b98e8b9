use Rattle.std.proofs.Common.{◌++◌, ◌∙◌, ap, List, Bool}
use Rattle.bit_strings.specs.NumbersInBits.{value_of}
use Rattle.gen2_crc.specs.Crc.{crc16_of}
use Rattle.command_grammar.proofs.CheckNumbers.{crc16-field}
use Rattle.command_grammar.proofs.writing.put_crc16.Goals as goal

pub returns-clause-items : goal.returns-clause-items
returns-clause-items c =
    c.put_word.ensures.items
    ∙ ap (λ (l : List Bool). c.args.out.now.items ++ l) (crc16-field c.args.out.now.items c.crc16_of_bits-check.result (c.crc16_of_bits-check.ensures ∙ ap (λ (l : List Bool). value_of (crc16_of l)) c.as_slice.ensures.value))
