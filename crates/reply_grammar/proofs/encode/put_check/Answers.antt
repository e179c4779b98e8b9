use Rattle.std.proofs.Common.{◌∙◌, ap, List, Bool, arith}
use Rattle.std.proofs.lemmas.List.{take_all}
use Rattle.bit_strings.specs.NumbersInBits.{value_of}
use Rattle.gen2_crc.specs.Crc.{crc16_of}
use Rattle.reply_grammar.proofs.Writing.{check_written}
use Rattle.reply_grammar.proofs.encode.put_check.Goals as goal

pub returns : goal.returns
returns c =
    check_written c.args.out.now c.put_u16_reserved.new.self c.crc16-check.result
    (c.crc16-check.ensures ∙ ap (λ (b : List Bool). value_of (crc16_of b)) (take_all _ c.args.out.now.items (omega arith))) c.put_u16_reserved.ensures
