use Rattle.reply_grammar.proofs.Suiting.{suits-decides}
use Rattle.reply_grammar.proofs.laws.suiting_law.Goals as goal

pub returns : goal.returns
returns c = suits-decides
