use Rattle.encode_lines.proofs.OneLine.{some_line}
use Rattle.encode_lines.proofs.laws.requests_have_a_line.Goals as goal

pub returns : goal.returns
returns c = some_line
