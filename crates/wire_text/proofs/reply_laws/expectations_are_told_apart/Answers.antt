-- The law is a lemma of its own.
use Rattle.wire_text.proofs.ExpectationsToldApart.{expect_told}
use Rattle.wire_text.proofs.reply_laws.expectations_are_told_apart.Goals as goal

pub returns : goal.returns
returns c = expect_told
