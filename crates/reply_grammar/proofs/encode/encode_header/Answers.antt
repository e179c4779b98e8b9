use Rattle.std.proofs.Common.{[], arith}
use Rattle.bit_strings.specs.laws.NumbersInBits.{length-field_of}
use Rattle.reply_grammar.specs.Replies.{spelling}
use Rattle.reply_grammar.proofs.Writing.{wrote, checked, room_left}
use Rattle.reply_grammar.proofs.encode.encode_header.Goals as goal

pub put_check-requires : goal.put_check-requires
put_check-requires c =
    let first = wrote c.clear.new.self c.push_reserved.new.self [] _ _ c.clear.ensures c.push_reserved.ensures in
    room_left c.put_u16_reserved.new.self _ _ 16 (wrote c.push_reserved.new.self c.put_u16_reserved.new.self _ _ _ first c.put_u16_reserved.ensures)
    (omega (arith, length-field_of c.args.handle 16, c.requires))

pub returns : goal.returns
unfolding spelling
returns c =
    let first = wrote c.clear.new.self c.push_reserved.new.self [] _ _ c.clear.ensures c.push_reserved.ensures in
    let second = wrote c.push_reserved.new.self c.put_u16_reserved.new.self _ _ _ first c.put_u16_reserved.ensures in
    checked c.put_u16_reserved.new.self c.put_check.new.out _ _ second c.put_check.ensures
