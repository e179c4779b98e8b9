use Rattle.std.proofs.Common.{◌≤◌, arith, length}
use Rattle.tag_population.proofs.SlotPlaces.{length_from, next_called}
use Rattle.tag_population.proofs.participation.Waiting.next_called.Goals as goal

pub next-requires : goal.next-requires
next-requires c =
    let below : c.args.from ≤ length c.self.inside.wheel = rw (← length_from 0 c.self.inside.bases c.self.inside.called c.self.inside.wheel, c.self.view_is) c.requires in
    omega (arith, below, c.self.invariant.1.few)

pub returns : goal.returns
returns c = rw (← c.self.view_is) (next_called c.self.inside.bases c.self.inside.called c.self.inside.wheel c.args.from c.next.result c.self.invariant.1 c.next.ensures)
