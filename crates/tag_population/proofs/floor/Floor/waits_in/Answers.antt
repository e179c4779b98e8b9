use Rattle.tag_population.proofs.SeatedTags.{parts_within}
use Rattle.tag_population.proofs.floor.Floor.waits_in.Goals as goal

pub waits_in-requires : goal.waits_in-requires
waits_in-requires c = parts_within c.self.inside.waiting c.self.inside.seats.items c.args.self.now c.args.number c.self.invariant c.self.view_is c.requires
