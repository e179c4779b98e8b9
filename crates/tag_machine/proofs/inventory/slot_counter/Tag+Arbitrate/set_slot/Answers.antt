use Rattle.std.proofs.Common.{refl}
use Rattle.tag_machine.proofs.inventory.slot_counter.Tag+Arbitrate.set_slot.Goals as goal

pub returns-clause-changed : goal.returns-clause-changed
returns-clause-changed g c =
    rw (c.new-self-inside.ensures, ← c.self.view_is) (c.self.inside.state.session, c.self.inside.state.q, c.self.inside.state.slot, refl, refl)
