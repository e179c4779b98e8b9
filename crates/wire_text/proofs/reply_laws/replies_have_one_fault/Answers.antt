-- The law is a lemma of its own.
use Rattle.wire_text.proofs.ReplyTexts.{one_reply_fault}
use Rattle.wire_text.proofs.reply_laws.replies_have_one_fault.Goals as goal

pub returns : goal.returns
returns c = one_reply_fault
