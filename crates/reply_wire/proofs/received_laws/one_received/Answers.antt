use Rattle.reply_wire.proofs.ReceivedLaws.{same_received, received_is}
use Rattle.reply_wire.specs.laws.SomeReceived.{some_received}
use Rattle.reply_wire.proofs.received_laws.one_received.Goals as goal

pub returns-clause-one : goal.returns-clause-one
returns-clause-one c = same_received

pub returns-clause-some : goal.returns-clause-some
returns-clause-some c = some_received

pub returns-clause-function : goal.returns-clause-function
returns-clause-function c = received_is
