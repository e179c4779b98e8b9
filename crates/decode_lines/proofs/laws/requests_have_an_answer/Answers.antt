use Rattle.decode_lines.proofs.SomeAnswer.{some_answer}
use Rattle.decode_lines.proofs.laws.requests_have_an_answer.Goals as goal

pub returns : goal.returns
returns c = some_answer
