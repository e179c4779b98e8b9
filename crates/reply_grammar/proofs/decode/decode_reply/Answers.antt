use Rattle.reply_grammar.proofs.OneReply.{decided, decided_first}
use Rattle.reply_grammar.proofs.decode.decode_reply.Goals as goal

pub returns-clause-only : goal.returns-clause-only
returns-clause-only c = decided c.take_apart.result c.args.expect.now c.args.bits.now.items c.take_apart.ensures.ok c.take_apart.ensures.refused

pub returns-clause-first : goal.returns-clause-first
returns-clause-first c = decided_first c.take_apart.result c.args.expect.now c.args.bits.now.items c.take_apart.ensures.ok c.take_apart.ensures.refused
