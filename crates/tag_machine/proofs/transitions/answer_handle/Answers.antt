use Rattle.std.proofs.Common.{refl}
use Rattle.reply_grammar.specs.Replies.{spelling}
use Rattle.tag_machine.proofs.transitions.answer_handle.Goals as goal

-- the bits of a handle are the same under each handle that would stand behind them
pub returns-clause-held : goal.returns-clause-held
unfolding spelling
returns-clause-held c =
    let number = c.ranges.number.fits in
    record { tag = refl; answered = refl; bits = c.encode_handle.ensures; in_range = (number, number, tt) }
