-- By the first line and what stands behind it.
use Rattle.checked_lines.specs.laws.SomeText.{some_text, last_text}
use Rattle.encode_lines.specs.EncodeLines.{encode_rules}
use Rattle.encode_lines.proofs.laws.+encode_lines_have_a_text.Goals as goal

pub returns-in-Some : goal.returns-in-Some
returns-in-Some t c =
    some_text encode_rules (λ line request asks. c.requests_have_a_line.ensures request) c.args.input.now c.in-Some.line.now c.in-Some.behind.now c.in-Some.ensures.lines
    c.lines_ask_or_are_faulty.ensures c.encode_lines_have_a_text.ensures

pub returns-in_default : goal.returns-in_default
returns-in_default t c = last_text encode_rules c.args.input.now c.in_default.ensures.whole
