use Rattle.std.proofs.Common.{refl}
use Rattle.tag_machine.proofs.inventory.slot_counter.Tag+Arbitrate.session.Goals as goal

pub returns : goal.returns
returns c = rw (← c.self.view_is) (c.self.inside.state.q, c.self.inside.state.slot, refl)
