use Rattle.std.proofs.Common.{[], ap, ◌∙◌, arith, length-append, length}
use Rattle.bit_strings.specs.NumbersInBits.{field_of}
use Rattle.bit_strings.specs.laws.NumbersInBits.{length-field_of}
use Rattle.bit_strings.specs.Words.{bits_of_words}
use Rattle.bit_strings.specs.laws.Words.{length-bits_of_words}
use Rattle.reply_grammar.specs.Replies.{spelling}
use Rattle.reply_grammar.proofs.Writing.{wrote, checked, room_left, words_lent}
use Rattle.reply_grammar.proofs.encode.encode_epc.Goals as goal

pub put_words_reserved-requires : goal.put_words_reserved-requires
put_words_reserved-requires c =
    room_left c.put_u16_reserved.new.self _ _ _ (wrote c.clear.new.self c.put_u16_reserved.new.self [] _ _ c.clear.ensures c.put_u16_reserved.ensures)
    (omega (arith, length-field_of c.args.pc 16, ap length c.as_slice.ensures.value, c.as_slice.ensures.most, c.requires.room))

pub put_check-requires : goal.put_check-requires
put_check-requires c =
    let first = wrote c.clear.new.self c.put_u16_reserved.new.self [] _ _ c.clear.ensures c.put_u16_reserved.ensures in
    room_left c.put_words_reserved.new.self _ _ 16 (wrote c.put_u16_reserved.new.self c.put_words_reserved.new.self _ _ _ first c.put_words_reserved.ensures)
    (omega (arith, length-append (field_of c.args.pc 16) (bits_of_words c.as_slice.result.now), length-field_of c.args.pc 16, length-bits_of_words c.as_slice.result.now, ap length c.as_slice.ensures.value, c.as_slice.ensures.most, c.requires.room))

pub returns-clause-bits : goal.returns-clause-bits
unfolding spelling
returns-clause-bits c =
    let first = wrote c.clear.new.self c.put_u16_reserved.new.self [] _ _ c.clear.ensures c.put_u16_reserved.ensures in
    let second = wrote c.put_u16_reserved.new.self c.put_words_reserved.new.self _ _ _ first c.put_words_reserved.ensures ∙ words_lent c.args.out.now.capacity (field_of c.args.pc 16) c.as_slice.result.now _ c.as_slice.ensures.value in
    checked c.put_words_reserved.new.self c.put_check.new.out _ _ second c.put_check.ensures
