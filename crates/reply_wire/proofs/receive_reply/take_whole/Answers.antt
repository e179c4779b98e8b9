use Rattle.std.proofs.Common.{refl}
use Rattle.std.proofs.lemmas.Result.{on_ok_weaker}
use Rattle.reply_wire.proofs.receive_reply.take_whole.Goals as goal

pub returns-clause-whole : goal.returns-clause-whole
returns-clause-whole c = on_ok_weaker c.decode_reply_to-in-Whole-received.result (λ answers. (c.decode_reply_to-in-Whole-received.new.reply, refl, answers)) c.decode_reply_to-in-Whole-received.ensures.ok
