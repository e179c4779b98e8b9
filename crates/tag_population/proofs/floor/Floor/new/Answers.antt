use Rattle.std.proofs.Common.{◌≡◌, ◌++◌, ◌∷◌, [], ◌∙◌, ap, arith, length}
use Rattle.tag_machine.specs.Hearing.{tag_value_of}
use Rattle.tag_machine.specs.TagValue.{TagValue}
use Rattle.tag_population.proofs.SeatedTags.{room_left, seating_next, all_seated}
use Rattle.tag_population.specs.Floor.{participation_in}
use Rattle.tag_population.proofs.floor.Floor.new.Goals as goal

pub from_index-number-requires : goal.from_index-number-requires
from_index-number-requires c =
    let room = room_left c.args.tags.items _ _ c.loop-tag.seats.items c.loop-tag.waiting _ c.loop-tag.invariant.0 c.in-Some.ensures.steps.0 in
    omega (arith, room.0, c.requires.few, c.args.tags.ok.0, c.len-in-loop-tag.ensures, c.loop-tag.seats.ok.0)

pub put-requires-clause-number : goal.put-requires-clause-number
put-requires-clause-number c =
    let room = room_left c.args.tags.items _ _ c.loop-tag.seats.items c.loop-tag.waiting _ c.loop-tag.invariant.0 c.in-Some.ensures.steps.0 in
    omega (arith, room.0, room.1, c.from_index-number.ensures, c.len-in-loop-tag.ensures, c.loop-tag.seats.ok.0)

pub push_reserved-requires : goal.push_reserved-requires
push_reserved-requires c =
    let room = room_left c.args.tags.items _ _ c.loop-tag.seats.items c.loop-tag.waiting _ c.loop-tag.invariant.0 c.in-Some.ensures.steps.0 in
    omega (arith, room.0, c.loop-tag.invariant.1)

pub loop-tag-preserved : goal.loop-tag-preserved
loop-tag-preserved c =
    let at : c.from_index-number.result ≡ length c.loop-tag.seats.items = omega (arith, c.from_index-number.ensures, c.len-in-loop-tag.ensures, c.loop-tag.seats.ok.0) in
    let taking : c.participation.result ≡ participation_in (tag_value_of c.in-Some.tag).state =
    c.participation.ensures.value ∙ ap (λ (t : TagValue). participation_in t.state) c.new-seat.ensures.value in (
      seating_next c.args.tags.items _ _ c.loop-tag.seats.items c.push_reserved.new.self.items c.loop-tag.waiting c.put.new.self c.in-Some.tag c.loop-tag.invariant.0 c.in-Some.ensures.steps.0
          (c.push_reserved.ensures.items ∙ ap (λ (t : TagValue). c.loop-tag.seats.items ++ t ∷ []) c.new-seat.ensures.value)
          (rw (← c.new-seat.ensures.value) c.new-seat.ensures.legal)
          (rw (← at, ← taking) c.put.ensures.participations),
      omega (arith, c.loop-tag.invariant.1, c.push_reserved.ensures.capacity),
    )

pub invariant_of-result : goal.invariant_of-result
invariant_of-result c = (all_seated c.args.tags.items _ _ _ c.loop-tag.invariant.0 (omega (arith, c.in-None.ensures.steps.0, c.loop-tag.tag-iterator.rest.ok.0)) (omega (arith, c.requires.few, c.args.tags.ok.0))).0

pub returns : goal.returns
returns c =
    let all = all_seated c.args.tags.items _ _ _ c.loop-tag.invariant.0 (omega (arith, c.in-None.ensures.steps.0, c.loop-tag.tag-iterator.rest.ok.0)) (omega (arith, c.requires.few, c.args.tags.ok.0)) in
    (all.1, all.2)
