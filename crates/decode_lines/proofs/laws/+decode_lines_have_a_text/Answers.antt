-- By the first line and what stands behind it.
use Rattle.checked_lines.specs.laws.SomeText.{some_text, last_text}
use Rattle.decode_lines.specs.Answer.{decode_rules}
use Rattle.decode_lines.proofs.laws.+decode_lines_have_a_text.Goals as goal

pub returns-in-Some : goal.returns-in-Some
returns-in-Some t c =
    some_text decode_rules (λ line request asks. c.requests_have_an_answer.ensures request asks.asks.limits) c.args.input.now c.in-Some.line.now c.in-Some.behind.now c.in-Some.ensures.lines
    c.lines_ask_or_are_faulty.ensures c.decode_lines_have_a_text.ensures

pub returns-in_default : goal.returns-in_default
returns-in_default t c = last_text decode_rules c.args.input.now c.in_default.ensures.whole
