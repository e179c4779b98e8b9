use Rattle.std.proofs.Common.{List, ℕ, [], ◌∷◌, ◌++◌, sym, ap, ◌∙◌}
use Rattle.std.specs.String.{string_bytes}
use Rattle.text_fields.specs.Lines.{line_feed}
use Rattle.tag_machine.specs.Hearing.{tag_value_of}
use Rattle.tag_machine.specs.Step.{step}
use Rattle.tag_machine.specs.TagValue.{TagValue}
use Rattle.tag_machine.specs.laws.AnswersByCommand.{expect_of}
use Rattle.bench_lines.specs.ProbeAnswers.{probe_answer_line}
use Rattle.bench_lines.specs.StateLine.{state_line}
use Rattle.bench_lines.proofs.HeardAnswers.{answer_heard, two_lines}
use Rattle.bench_lines.proofs.playing.PlayingRooms.hear.Goals as goal

pub push_answer_line-requires : goal.push_answer_line-requires
push_answer_line-requires g c =
    let tag = tag_value_of c.args.tag in
    let outcome = step c.args.self.now.command tag.state tag.body in (
      outcome.answer,
      answer_heard outcome c.hear-tag.result c.args.self.now.bits c.hear-tag.new.out c.expectation_of-expect.result (expect_of c.args.self.now.command tag.state) c.hear-tag.ensures.step
          (c.expectation_of-expect.ensures tag.state (sym (c.has_half.ensures tag.state c.numbers.ensures)))
          (λ sent is. c.answers_are_replies.ensures.expected c.args.self.now.command tag.state tag.body sent c.state.ensures.legal is),
    )

pub returns-clause-text : goal.returns-clause-text
returns-clause-text g c =
    let tag = tag_value_of c.args.tag in
    let outcome = step c.args.self.now.command tag.state tag.body in
    let number = c.args.number in
    let text = string_bytes c.args.self.now.text in
    let answered = answer_heard outcome c.hear-tag.result c.args.self.now.bits c.hear-tag.new.out c.expectation_of-expect.result (expect_of c.args.self.now.command tag.state) c.hear-tag.ensures.step
    (c.expectation_of-expect.ensures tag.state (sym (c.has_half.ensures tag.state c.numbers.ensures)))
    (λ sent is. c.answers_are_replies.ensures.expected c.args.self.now.command tag.state tag.body sent c.state.ensures.legal is) in
    c.in_ok-push_state_line.ensures
    ∙ ap (λ (t : List ℕ). t ++ (state_line number (tag_value_of c.hear-tag.result.tag) ++ line_feed ∷ [])) (c.in_ok-push_answer_line.ensures outcome.answer answered)
    ∙ ap (λ (t : TagValue). (text ++ (probe_answer_line number outcome.answer ++ line_feed ∷ [])) ++ (state_line number t ++ line_feed ∷ [])) c.hear-tag.ensures.step.tag
    ∙ two_lines text (probe_answer_line number outcome.answer) (state_line number outcome.tag)
