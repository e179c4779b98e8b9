use Rattle.std.proofs.Common.{◌≡◌, ◌≢◌, rules, sym}
use Rattle.tag_machine.specs.Hearing.{tag_value_of}
use Rattle.tag_machine.specs.Step.{step}
use Rattle.tag_machine.specs.declared.any_tag.Answered.TheVariants.{Silent}
use Rattle.tag_machine.specs.laws.AnswersByCommand.{expect_of}
use Rattle.log_judge.proofs.HeardAnswers.{has_sent, seen_told, silence_told}
use Rattle.log_judge.proofs.asking.AskingRooms.hear.Goals as goal

pub returns-then-eq-clause-answer : goal.returns-then-eq-clause-answer
returns-then-eq-clause-answer g c =
    let tag = tag_value_of c.args.tag in
    let outcome = step c.args.command.now tag.state tag.body in
    let silent_then : c.hear-tag.result.answered ≡ Silent = search rules in
    silence_told outcome.answer c.hear-tag.result.answered c.args.self.now.answer.reply c.hear-tag.ensures.step.answered silent_then

pub expected_reply_to-requires : goal.expected_reply_to-requires
expected_reply_to-requires g c =
    let tag = tag_value_of c.args.tag in
    let outcome = step c.args.command.now tag.state tag.body in
    let heard : c.hear-tag.result.answered ≢ Silent = search rules in
    let sent = has_sent outcome c.hear-tag.result c.args.self.now.bits c.hear-tag.new.out c.expectation_of-expect.result (expect_of c.args.command.now tag.state) c.hear-tag.ensures.step
    (c.expectation_of-expect.ensures tag.state (sym (c.has_half.ensures tag.state c.numbers.ensures)))
    (λ sent is. c.answers_are_replies.ensures.expected c.args.command.now tag.state tag.body sent c.state.ensures.legal is) heard in
    (sent.0.reply, sent.2)

pub returns-clause-answer : goal.returns-clause-answer
returns-clause-answer g c =
    let tag = tag_value_of c.args.tag in
    let outcome = step c.args.command.now tag.state tag.body in
    let heard : c.hear-tag.result.answered ≢ Silent = search rules in
    let sent = has_sent outcome c.hear-tag.result c.args.self.now.bits c.hear-tag.new.out c.expectation_of-expect.result (expect_of c.args.command.now tag.state) c.hear-tag.ensures.step
    (c.expectation_of-expect.ensures tag.state (sym (c.has_half.ensures tag.state c.numbers.ensures)))
    (λ sent is. c.answers_are_replies.ensures.expected c.args.command.now tag.state tag.body sent c.state.ensures.legal is) heard in
    seen_told outcome.answer c.hear-tag.result.answered c.expectation_of-expect.result c.hear-tag.new.out.items c.expected_reply_to.new.reply c.hear-tag.ensures.step.answered sent c.expected_reply_to.ensures
