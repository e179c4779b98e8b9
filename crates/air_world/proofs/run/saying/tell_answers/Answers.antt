use Rattle.air_world.proofs.Names.{◌≡◌, List, ◌∷◌, length, map, refl, ◌∙◌, ap, arith, [], AnswersCommand, ReportLine, AnswerLine, answer_line, length-map, take_all, Replied, answer_value_of}
use Rattle.air_world.proofs.Names.{AnswerValue, answer_of, some_replied}
use Rattle.air_world.proofs.Passing.{tells-nothing, tells-same}
use Rattle.air_world.proofs.Saying.{answer-there, none-there, short-at, reply-at, tells-more}
use Rattle.air_world.proofs.run.saying.tell_answers.Goals as goal

pub loop-place-init : goal.loop-place-init
loop-place-init g c = record { room = refl; told = λ replies are all. tells-nothing }

pub unreachable-requires : goal.unreachable-requires
unreachable-requires g c = absurd (none-there c.args.answers.now.items c.loop-place.place c.get.result (omega arith) c.get.ensures c.in_default.is)

pub read-reply-requires : goal.read-reply-requires
read-reply-requires g c =
    let is = answer-there c.args.answers.now.items c.loop-place.place c.get.result c.in-Some.answer c.get.ensures c.in-Some.is in
    omega (arith, short-at c.args.answers.now.items c.loop-place.place (answer_value_of c.in-Some.answer) c.requires.short is, c.loop-place.invariant.room, c.requires.room)

pub loop-place-preserved : goal.loop-place-preserved
loop-place-preserved g c = record {
  room = c.read-reply.ensures.room ∙ c.loop-place.invariant.room;
  told = λ replies are all.
      let place = c.loop-place.place in
      let found = some_replied c.args.answers.now.items replies place c.in-Some.answer are c.get.ensures c.in-Some.is in
      let number = c.from.ensures ∙ c.get-in-loop-place.ensures.value ∙ ap (λ (a : AnswerValue). a.number) found.2 in
      let extended = ap (λ (a : AnswerValue). a.extended) found.2 in
      let reply = c.read-reply.ensures.reply found.0.sent (reply-at (AnswersCommand c.args.command.now) replies place found.0 all found.1) (ap (λ (a : AnswerValue). a.bits) found.2) in
      let line : AnswerLine c.args.exchange c.from.result c.in-Some.answer.extended c.read-reply.result ≡ answer_line c.args.exchange found.0 =
      λ i. AnswerLine c.args.exchange (number i) (extended i) (reply i) in
      tells-more (answer_line c.args.exchange) [] replies place found.0 found.1 (c.loop-place.invariant.told replies are all)
      (tells-same (ap (λ (told : ReportLine). told ∷ []) line) (record { on = c.tell.ensures }));
}

pub returns-clause-told : goal.returns-clause-told
returns-clause-told g c = λ replies are all.
    let whole = take_all c.loop-place.place replies
    (omega (arith, ap (λ (answers : List AnswerValue). length answers) are, length-map replies answer_of, c.len-place-end.ensures.count, c.loop-place-test.false)) in
    tells-same (ap (λ (told : List Replied). map (answer_line c.args.exchange) told) whole) (c.loop-place.invariant.told replies are all)
