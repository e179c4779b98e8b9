use Rattle.air_world.proofs.Names.{refl}
use Rattle.air_world.proofs.run.operating.hear.Goals as goal

pub returns-in-Got-clause-received : goal.returns-in-Got-clause-received
returns-in-Got-clause-received c = (c.receive_last.new.received, refl, c.receive_last.ensures.received)

pub returns-clause-received : goal.returns-clause-received
returns-clause-received c = (c.receive_last-in-Got-answer.new.received, refl, c.receive_last-in-Got-answer.ensures.received)
