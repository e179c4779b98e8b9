-- The law is a lemma of its own.
use Rattle.wire_text.proofs.ReplyTexts.{reply_is_not_faulty}
use Rattle.wire_text.proofs.reply_laws.spelled_replies_are_not_faulty.Goals as goal

pub returns : goal.returns
returns c = reply_is_not_faulty
