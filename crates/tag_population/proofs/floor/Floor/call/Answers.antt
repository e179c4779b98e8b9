use Rattle.std.proofs.Common.{◌∙◌, arith, Some}
use Rattle.tag_population.proofs.SeatedTags.{Chosen, chosen, floor_called, parts_within, seat_read, seated_put, seats_within}
use Rattle.tag_population.specs.declared.participation.Participation.TheVariants.{Called}
use Rattle.tag_population.proofs.floor.Floor.call.Goals as goal

pub index_mut-requires : goal.index_mut-requires
index_mut-requires g c =
    omega (arith, seats_within c.self.inside.waiting c.self.inside.seats.items c.args.self.now c.args.number c.self.invariant c.self.view_is c.requires, c.index-at.ensures.value, c.self.inside.seats.ok.0)

pub write_back-requires : goal.write_back-requires
write_back-requires g c = parts_within c.self.inside.waiting c.self.inside.seats.items c.args.self.now c.args.number c.self.invariant c.self.view_is c.requires

pub put-requires-clause-number : goal.put-requires-clause-number
put-requires-clause-number g c = parts_within c.self.inside.waiting c.self.inside.seats.items c.args.self.now c.args.number c.self.invariant c.self.view_is c.requires

pub invariant_of-self : goal.invariant_of-self
invariant_of-self g c =
    let b : Chosen = chosen c.self.inside.waiting c.self.inside.seats.items c.args.self.now c.args.number c.self.invariant c.self.view_is c.requires in
    rw c.index-at.ensures.value (seated_put b (Some Called) c.put.new.self c.write_back.new.seat c.put.ensures.participations c.put.ensures.slots c.write_back.ensures.legal)

pub returns-clause-floor : goal.returns-clause-floor
returns-clause-floor g c =
    let b : Chosen = chosen c.self.inside.waiting c.self.inside.seats.items c.args.self.now c.args.number c.self.invariant c.self.view_is c.requires in
    let read = rw c.index-at.ensures.value at c.index_mut.ensures.value in
    rw c.index-at.ensures.value (floor_called b c.put.new.self c.write_back.new.seat c.put.ensures.participations (c.write_back.ensures.seat ∙ seat_read b c.index_mut.result.now read))
