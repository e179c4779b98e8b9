use Rattle.std.proofs.Common.{◌<◌, ◌^◌, take, arith, length-take, subst}
use Rattle.bit_strings.specs.NumbersInBits.{value_of}
use Rattle.bit_strings.specs.laws.NumbersInBits.{value_of-within}
use Rattle.reply_grammar.specs.laws.Reading.{ReadTo, read_none, read_more}
use Rattle.reply_grammar.proofs.decode.epc_words.Goals as goal

pub loop-at-init : goal.loop-at-init
loop-at-init c = (rw c.new-words.ensures (read_none c.args.bits.now.items 16), omega arith)

pub push_reserved-requires : goal.push_reserved-requires
push_reserved-requires c =
    let few : value_of (take 5 c.args.bits.now.items) < 2 ^ 5 = value_of-within (take 5 c.args.bits.now.items) 5 (omega (arith, length-take 5 c.args.bits.now.items)) in
    omega (arith, c.loop-at.invariant.0.place, c.requires)

pub loop-at-preserved : goal.loop-at-preserved
loop-at-preserved c =
    let few : value_of (take 5 c.args.bits.now.items) < 2 ^ 5 = value_of-within (take 5 c.args.bits.now.items) 5 (omega (arith, length-take 5 c.args.bits.now.items)) in
    let so_far = c.loop-at.invariant.0 in (
      rw c.push_reserved.ensures (read_more c.args.bits.now.items 16 c.loop-at.at c.word_at.result c.loop-at.words so_far (omega (arith, c.requires)) c.word_at.ensures),
      omega (arith, so_far.place, c.requires),
    )

pub returns : goal.returns
returns c = subst (λ at. ReadTo c.args.bits.now.items 16 at c.loop-at.words) (omega (arith, c.loop-at-test.false, c.loop-at.invariant.1)) c.loop-at.invariant.0
