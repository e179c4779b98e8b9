use Rattle.std.proofs.Common.{refl}
use Rattle.tag_machine.proofs.inventory.slot_counter.Tag+Arbitrate.slot.Goals as goal

pub returns-clause-value : goal.returns-clause-value
returns-clause-value c = rw (c.get.ensures.value, ← c.self.view_is) (c.self.inside.state.session, c.self.inside.state.q, refl)
