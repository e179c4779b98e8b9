use Rattle.std.proofs.Common.{arith}
use Rattle.tag_population.proofs.SeatedTags.{floor_long}
use Rattle.tag_population.proofs.floor.Floor.next_reached.Goals as goal

pub next_called-requires : goal.next_called-requires
next_called-requires c =
    let long = floor_long c.self.inside.waiting c.self.inside.seats.items c.args.self.now c.self.invariant c.self.view_is in
    omega (arith, long.0, c.requires)
