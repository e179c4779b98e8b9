-- The law is a lemma of its own.
use Rattle.wire_text.proofs.ReplyTexts.{reply_texts}
use Rattle.wire_text.proofs.reply_laws.replies_are_field_texts.Goals as goal

pub returns : goal.returns
returns c = reply_texts
