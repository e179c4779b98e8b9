use Rattle.std.proofs.Common.{◌*◌, List, Bool, take, ◌++◌, ◌∙◌, ap, subst, append_assoc, arith}
use Rattle.bit_strings.specs.NumbersInBits.{field_of}
use Rattle.gen2_crc.specs.Crc.{RegisterStandsFor}
use Rattle.gen2_crc.proofs.WholeWords.{word_more}
use Rattle.gen2_crc.proofs.register.Crc16.push_all.Goals as goal

pub loop-at-preserved : goal.loop-at-preserved
loop-at-preserved c = λ front stands.
    let so_far = take (16 * c.loop-at.at) c.args.bits.now in
    let more = word_more c.args.bits.now c.loop-at.at c.word_of.result (omega arith) c.word_of.ensures in
    subst (RegisterStandsFor c.push_word.new.self)
    (append_assoc front so_far (field_of c.word_of.result 16) ∙ ap (λ (bits : List Bool). front ++ bits) more)
    (c.push_word.ensures (front ++ so_far) (c.loop-at.invariant front stands))
