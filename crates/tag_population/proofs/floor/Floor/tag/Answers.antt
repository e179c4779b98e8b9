use Rattle.std.proofs.Common.{◌∙◌, arith, refl, sym, None}
use Rattle.std.proofs.lemmas.List.{get_or-set_same, set-get_or}
use Rattle.tag_population.proofs.SeatedTags.{Chosen, chosen, floor_back, parts_within, seat_read, seated_put, seats_within, steps_back_most}
use Rattle.tag_population.specs.Participation.{participation_at}
use Rattle.tag_population.proofs.floor.Floor.tag.Goals as goal

pub index_mut-requires : goal.index_mut-requires
index_mut-requires g c =
    omega (arith, seats_within c.self.inside.waiting c.self.inside.seats.items c.args.self.now c.args.number c.self.invariant c.self.view_is c.requires, c.index-at.ensures.value, c.self.inside.seats.ok.0)

pub index-requires : goal.index-requires
index-requires g c =
    omega (arith, seats_within c.self.inside.waiting c.self.inside.seats.items c.args.self.now c.args.number c.self.invariant c.self.view_is c.requires, c.index-at.ensures.value, c.self.inside.seats.ok.0)

pub write_back-requires : goal.write_back-requires
write_back-requires g c = parts_within c.self.inside.waiting c.self.inside.seats.items c.args.self.now c.args.number c.self.invariant c.self.view_is c.requires

pub invariant_of-self : goal.invariant_of-self
invariant_of-self g c =
    let b : Chosen = chosen c.self.inside.waiting c.self.inside.seats.items c.args.self.now c.args.number c.self.invariant c.self.view_is c.requires in
    rw c.index-at.ensures.value
    (seated_put b (participation_at b.parts b.number) b.parts c.write_back.new.seat (sym (set-get_or b.parts b.number None)) b.are.slots c.write_back.ensures.legal)

pub returns : goal.returns
returns g c =
    let b : Chosen = chosen c.self.inside.waiting c.self.inside.seats.items c.args.self.now c.args.number c.self.invariant c.self.view_is c.requires in
    let read = rw c.index-at.ensures.value at c.index_mut.ensures.value in
    let kept = rw c.index-at.ensures.value at c.index.ensures in
    let back = c.write_back.ensures.seat ∙ seat_read b c.index_mut.result.now read in (
      (refl, λ floor. tt, rw c.index-at.ensures.value (floor_back b c.write_back.new.seat back)),
      record {
        same = tt;
        value = c.tag.ensures.value ∙ kept ∙ get_or-set_same b.items b.number c.write_back.new.seat c.index.result.now b.within ∙ back;
        legal = rw c.tag.ensures.value c.tag.ensures.legal;
        counted = omega (arith, c.write_back.ensures.counted, steps_back_most (participation_at c.self.inside.waiting c.args.number));
      },
    )
