use Rattle.tag_machine.proofs.any_tag.AnyTag.take.Goals as goal

pub returns-in-Lock : goal.returns-in-Lock
returns-in-Lock c = rw c.in-Lock.is c.lock.ensures
