-- The text is the front of what is stored.
use Rattle.std.proofs.Common.{arith, rules}
use Rattle.pie_text.proofs.PairTexts.{take_stored}
use Rattle.pie_text.proofs.kept_texts.KeptText+COUNT+VECTOR.put.Goals as goal

pub returns-clause-text : goal.returns-clause-text
returns-clause-text g c =
    let kept = c.args.self.now in
    rw kept.spelled at (take_stored c.args.room.now kept.text c.args.filled kept.length (search rules) (omega (arith, kept.short)))
