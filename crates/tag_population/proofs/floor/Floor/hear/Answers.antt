use Rattle.std.proofs.Common.{◌∙◌, ◌++◌, ap, arith}
use Rattle.tag_machine.specs.Answers.{Outcome}
use Rattle.tag_machine.specs.TagsInExchange.{outcome_unless, reply_of}
use Rattle.tag_machine.specs.TagValue.{TagValue}
use Rattle.tag_population.proofs.SeatedTags.{Chosen, chosen, floor_becomes, parts_within, seat_read, seated_put, seats_within}
use Rattle.tag_population.specs.Answers.{answers_of, AnswersValue}
use Rattle.tag_population.specs.Floor.{floor_with}
use Rattle.tag_population.proofs.floor.Floor.hear.Goals as goal

pub index_mut-seat-requires : goal.index_mut-seat-requires
index_mut-seat-requires g c =
    omega (arith, seats_within c.self.inside.waiting c.self.inside.seats.items c.args.self.now c.args.number c.self.invariant c.self.view_is c.requires.number, c.index-at.ensures.value, c.self.inside.seats.ok.0)

pub write_back_for-requires : goal.write_back_for-requires
write_back_for-requires g c = parts_within c.self.inside.waiting c.self.inside.seats.items c.args.self.now c.args.number c.self.invariant c.self.view_is c.requires.number

pub put-requires-clause-number : goal.put-requires-clause-number
put-requires-clause-number g c = parts_within c.self.inside.waiting c.self.inside.seats.items c.args.self.now c.args.number c.self.invariant c.self.view_is c.requires.number

pub invariant_of-self : goal.invariant_of-self
invariant_of-self g c =
    let b : Chosen = chosen c.self.inside.waiting c.self.inside.seats.items c.args.self.now c.args.number c.self.invariant c.self.view_is c.requires.number in
    rw c.index-at.ensures.value (seated_put b c.participation-participation.result c.put.new.self c.hear.new.self c.put.ensures.participations c.put.ensures.slots c.hear.ensures.legal)

pub returns-clause-floor : goal.returns-clause-floor
returns-clause-floor g c =
    let b : Chosen = chosen c.self.inside.waiting c.self.inside.seats.items c.args.self.now c.args.number c.self.invariant c.self.view_is c.requires.number in
    let read = rw c.index-at.ensures.value at c.index_mut-seat.ensures.value in
    let came = c.write_back_for.ensures.outcome ∙ ap (λ (t : TagValue). outcome_unless c.args.misses c.args.command.now t) (seat_read b c.index_mut-seat.result.now read) in
    rw c.index-at.ensures.value (floor_becomes b c.participation-participation.result c.put.new.self c.hear.new.self c.put.ensures.participations c.participation-participation.ensures.value)
    ∙ ap (λ (t : TagValue). floor_with c.args.self.now c.args.number t) (c.hear.ensures.tag ∙ ap (λ (o : Outcome). o.tag) came)

pub returns-clause-answers : goal.returns-clause-answers
returns-clause-answers g c =
    let b : Chosen = chosen c.self.inside.waiting c.self.inside.seats.items c.args.self.now c.args.number c.self.invariant c.self.view_is c.requires.number in
    let read = rw c.index-at.ensures.value at c.index_mut-seat.ensures.value in
    let came = c.write_back_for.ensures.outcome ∙ ap (λ (t : TagValue). outcome_unless c.args.misses c.args.command.now t) (seat_read b c.index_mut-seat.result.now read) in
    c.hear.ensures.answers
    ∙ ap (λ (o : Outcome). let more : AnswersValue = record { items = c.args.answers.now.items ++ answers_of (reply_of c.args.number o.answer); tags = c.args.answers.now.tags } in more) came
