use Rattle.air_world.proofs.Names.{◌≡◌, sym, ◌∙◌, ap, arith, AnswersCommand, slice_get_within, Replied, AnswerValue, answer_of, answer_value_of, some_replied}
use Rattle.air_world.proofs.Saying.{answer-at, answer-there, none-there, others-more, reply-at, short-at}
use Rattle.air_world.proofs.run.saying.reply_of.Goals as goal

pub unreachable-requires : goal.unreachable-requires
unreachable-requires c = absurd (none-there c.args.answers.now.items c.loop-place.place c.get.result (omega arith) c.get.ensures c.in_default.is)

pub read-requires : goal.read-requires
read-requires c =
    let is = answer-there c.args.answers.now.items c.loop-place.place c.get.result c.in-Some.answer c.get.ensures c.in-Some.is in
    omega (arith, short-at c.args.answers.now.items c.loop-place.place (answer_value_of c.in-Some.answer) c.requires.short is, c.loop-place.invariant.room, c.requires.room)

pub returns-then-from-tag-clause-reply : goal.returns-then-from-tag-clause-reply
returns-then-from-tag-clause-reply c = λ replies place replied are all different at tag.
    let here = some_replied c.args.answers.now.items replies c.loop-place.place c.in-Some.answer are c.get.ensures c.in-Some.is in
    let number = sym (ap (λ (a : AnswerValue). a.number) here.2) ∙ sym c.get-in-loop-place.ensures.value ∙ sym c.from.ensures ∙ c.if-from-tag.true ∙ tag in
    let own : here.0 ≡ replied = different c.loop-place.place place here.0 replied here.1 at number in
    c.read.ensures.reply here.0.sent (reply-at (AnswersCommand c.args.command.now) replies c.loop-place.place here.0 all here.1) (ap (λ (a : AnswerValue). a.bits) here.2)
    ∙ ap (λ (r : Replied). r.sent.reply) own

pub loop-place-preserved : goal.loop-place-preserved
loop-place-preserved c = record {
  room = c.loop-place.invariant.room;
  others = others-more c.args.answers.now.items c.args.tag c.loop-place.place (answer_value_of c.in-Some.answer)
      (answer-there c.args.answers.now.items c.loop-place.place c.get.result c.in-Some.answer c.get.ensures c.in-Some.is)
      (λ number. c.if-from-tag.false (c.from.ensures ∙ c.get-in-loop-place.ensures.value ∙ number)) c.loop-place.invariant.others;
}

pub returns-clause-reply : goal.returns-clause-reply
returns-clause-reply c = λ replies place replied are all different at tag.
    let answer = answer-at c.args.answers.now.items replies place replied are at in
    absurd (c.loop-place.invariant.others place (answer_of replied) (omega (arith, slice_get_within c.args.answers.now.items place (answer_of replied) answer)) answer (sym tag))
