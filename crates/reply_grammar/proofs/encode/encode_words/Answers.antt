use Rattle.std.proofs.Common.{[], arith, length-append}
use Rattle.bit_strings.specs.NumbersInBits.{field_of}
use Rattle.bit_strings.specs.laws.NumbersInBits.{length-field_of}
use Rattle.bit_strings.specs.Words.{bits_of_words}
use Rattle.bit_strings.specs.laws.Words.{length-bits_of_words}
use Rattle.reply_grammar.specs.Replies.{spelling}
use Rattle.reply_grammar.proofs.Writing.{wrote, checked, room_left}
use Rattle.reply_grammar.proofs.encode.encode_words.Goals as goal

pub put_u16_reserved-requires : goal.put_u16_reserved-requires
put_u16_reserved-requires c =
    let first = wrote c.clear.new.self c.push_reserved.new.self [] _ _ c.clear.ensures c.push_reserved.ensures in
    room_left c.put_words_reserved.new.self _ _ 16 (wrote c.push_reserved.new.self c.put_words_reserved.new.self _ _ _ first c.put_words_reserved.ensures)
    (omega (arith, length-bits_of_words c.args.words.now, c.requires.few, c.requires.room))

pub put_check-requires : goal.put_check-requires
put_check-requires c =
    let first = wrote c.clear.new.self c.push_reserved.new.self [] _ _ c.clear.ensures c.push_reserved.ensures in
    let second = wrote c.push_reserved.new.self c.put_words_reserved.new.self _ _ _ first c.put_words_reserved.ensures in
    room_left c.put_u16_reserved.new.self _ _ 16 (wrote c.put_words_reserved.new.self c.put_u16_reserved.new.self _ _ _ second c.put_u16_reserved.ensures)
    (omega (arith, length-append (bits_of_words c.args.words.now) (field_of c.args.handle 16), length-field_of c.args.handle 16, length-bits_of_words c.args.words.now, c.requires.few, c.requires.room))

pub returns-clause-bits : goal.returns-clause-bits
unfolding spelling
returns-clause-bits c =
    let first = wrote c.clear.new.self c.push_reserved.new.self [] _ _ c.clear.ensures c.push_reserved.ensures in
    let second = wrote c.push_reserved.new.self c.put_words_reserved.new.self _ _ _ first c.put_words_reserved.ensures in
    let third = wrote c.put_words_reserved.new.self c.put_u16_reserved.new.self _ _ _ second c.put_u16_reserved.ensures in
    checked c.put_u16_reserved.new.self c.put_check.new.out _ _ third c.put_check.ensures
