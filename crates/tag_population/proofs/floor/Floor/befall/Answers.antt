use Rattle.std.proofs.Common.{◌∙◌, ap, arith}
use Rattle.tag_machine.specs.Events.{tag_after_event}
use Rattle.tag_machine.specs.TagValue.{TagValue}
use Rattle.tag_population.proofs.SeatedTags.{Chosen, chosen, floor_becomes, parts_within, seat_read, seated_put, seats_within}
use Rattle.tag_population.specs.Floor.{floor_with}
use Rattle.tag_population.proofs.floor.Floor.befall.Goals as goal

pub index_mut-seat-requires : goal.index_mut-seat-requires
index_mut-seat-requires g c =
    omega (arith, seats_within c.self.inside.waiting c.self.inside.seats.items c.args.self.now c.args.number c.self.invariant c.self.view_is c.requires, c.index-at.ensures.value, c.self.inside.seats.ok.0)

pub write_back-requires : goal.write_back-requires
write_back-requires g c = parts_within c.self.inside.waiting c.self.inside.seats.items c.args.self.now c.args.number c.self.invariant c.self.view_is c.requires

pub put-requires-clause-number : goal.put-requires-clause-number
put-requires-clause-number g c = parts_within c.self.inside.waiting c.self.inside.seats.items c.args.self.now c.args.number c.self.invariant c.self.view_is c.requires

pub invariant_of-self : goal.invariant_of-self
invariant_of-self g c =
    let b : Chosen = chosen c.self.inside.waiting c.self.inside.seats.items c.args.self.now c.args.number c.self.invariant c.self.view_is c.requires in
    rw c.index-at.ensures.value (seated_put b c.participation-participation.result c.put.new.self c.befall.new.self c.put.ensures.participations c.put.ensures.slots c.befall.ensures.legal)

pub returns-clause-floor : goal.returns-clause-floor
returns-clause-floor g c =
    let b : Chosen = chosen c.self.inside.waiting c.self.inside.seats.items c.args.self.now c.args.number c.self.invariant c.self.view_is c.requires in
    let read = rw c.index-at.ensures.value at c.index_mut-seat.ensures.value in
    rw c.index-at.ensures.value (floor_becomes b c.participation-participation.result c.put.new.self c.befall.new.self c.put.ensures.participations c.participation-participation.ensures.value)
    ∙ ap (λ (t : TagValue). floor_with c.args.self.now c.args.number t)
    (c.befall.ensures.tag ∙ ap (λ (t : TagValue). tag_after_event c.args.event t.state t.body) (c.write_back.ensures.seat ∙ seat_read b c.index_mut-seat.result.now read))
