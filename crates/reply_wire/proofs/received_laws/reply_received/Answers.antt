use Rattle.reply_wire.specs.Codes.{table_of}
use Rattle.reply_grammar.proofs.Replies.{answers_from}
use Rattle.reply_wire.proofs.RepliesReceived.{whole_received, unexpected_received}
use Rattle.reply_wire.proofs.received_laws.reply_received.Goals as goal

pub returns-clause-whole : goal.returns-clause-whole
returns-clause-whole c = λ code trext expect reply handle levels stream range fits suits carries.
    whole_received (table_of code) trext expect reply _ levels stream (answers_from reply expect handle suits carries range fits)

pub returns-clause-unexpected : goal.returns-clause-unexpected
returns-clause-unexpected c = λ code trext expect bits levels. unexpected_received (table_of code) trext expect bits levels
