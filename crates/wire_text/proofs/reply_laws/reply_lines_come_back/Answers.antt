-- The law is a lemma of its own.
use Rattle.wire_text.proofs.ReplyTexts.{reply_comes_back}
use Rattle.wire_text.proofs.reply_laws.reply_lines_come_back.Goals as goal

pub returns : goal.returns
returns c = reply_comes_back
