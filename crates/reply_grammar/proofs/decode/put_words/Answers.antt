use Rattle.std.proofs.Common.{arith, subst}
use Rattle.reply_grammar.specs.laws.Reading.{ReadTo, read_none, read_more}
use Rattle.reply_grammar.proofs.decode.put_words.Goals as goal

pub loop-at-init : goal.loop-at-init
loop-at-init c = (rw c.clear.ensures (read_none c.args.bits.now.items 1), omega arith)

pub loop-at-preserved : goal.loop-at-preserved
loop-at-preserved c =
    let so_far = c.loop-at.invariant.0 in (
      rw c.push_reserved.ensures (read_more c.args.bits.now.items 1 c.loop-at.at c.word_at.result c.loop-at.words so_far (omega (arith, so_far.place, c.requires.whole)) c.word_at.ensures),
      omega (arith, so_far.place),
    )

pub returns : goal.returns
returns c = subst (λ at. ReadTo c.args.bits.now.items 1 at c.loop-at.words) (omega (arith, c.requires.whole, c.loop-at-test.false, c.loop-at.invariant.1)) c.loop-at.invariant.0
