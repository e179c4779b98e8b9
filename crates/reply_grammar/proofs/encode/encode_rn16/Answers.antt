use Rattle.std.proofs.Common.{[]}
use Rattle.reply_grammar.specs.Replies.{spelling}
use Rattle.reply_grammar.proofs.Writing.{wrote}
use Rattle.reply_grammar.proofs.encode.encode_rn16.Goals as goal

pub returns : goal.returns
unfolding spelling
returns c = wrote c.clear.new.self c.put_u16_reserved.new.self [] _ _ c.clear.ensures c.put_u16_reserved.ensures
