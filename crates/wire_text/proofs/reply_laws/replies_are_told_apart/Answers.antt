-- The law is a lemma of its own.
use Rattle.wire_text.proofs.ReplyTexts.{reply_told}
use Rattle.wire_text.proofs.reply_laws.replies_are_told_apart.Goals as goal

pub returns : goal.returns
returns c = reply_told
