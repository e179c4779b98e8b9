use Rattle.std.proofs.Common.{[], arith, length-append}
use Rattle.bit_strings.specs.NumbersInBits.{field_of}
use Rattle.bit_strings.specs.laws.NumbersInBits.{length-field_of}
use Rattle.reply_grammar.specs.Replies.{spelling}
use Rattle.reply_grammar.proofs.Writing.{wrote, checked, room_left}
use Rattle.reply_grammar.proofs.encode.encode_error.Goals as goal

pub put_u16_reserved-requires : goal.put_u16_reserved-requires
put_u16_reserved-requires c =
    let first = wrote c.clear.new.self c.push_reserved.new.self [] _ _ c.clear.ensures c.push_reserved.ensures in
    room_left c.put_code.new.out _ _ 16 (wrote c.push_reserved.new.self c.put_code.new.out _ _ _ first c.put_code.ensures)
    (omega (arith, length-field_of c.args.code 8, c.requires))

pub put_check-requires : goal.put_check-requires
put_check-requires c =
    let first = wrote c.clear.new.self c.push_reserved.new.self [] _ _ c.clear.ensures c.push_reserved.ensures in
    let second = wrote c.push_reserved.new.self c.put_code.new.out _ _ _ first c.put_code.ensures in
    room_left c.put_u16_reserved.new.self _ _ 16 (wrote c.put_code.new.out c.put_u16_reserved.new.self _ _ _ second c.put_u16_reserved.ensures)
    (omega (arith, length-append (field_of c.args.code 8) (field_of c.args.handle 16), length-field_of c.args.code 8, length-field_of c.args.handle 16, c.requires))

pub returns : goal.returns
unfolding spelling
returns c =
    let first = wrote c.clear.new.self c.push_reserved.new.self [] _ _ c.clear.ensures c.push_reserved.ensures in
    let second = wrote c.push_reserved.new.self c.put_code.new.out _ _ _ first c.put_code.ensures in
    let third = wrote c.put_code.new.out c.put_u16_reserved.new.self _ _ _ second c.put_u16_reserved.ensures in
    checked c.put_u16_reserved.new.self c.put_check.new.out _ _ third c.put_check.ensures
