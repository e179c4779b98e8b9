use Rattle.line_code.specs.laws.Streams.{one_stream, same_answer}
use Rattle.line_code.specs.laws.Existence.{some_answer}
use Rattle.line_code.proofs.laws.one_answer.Goals as goal

pub returns-clause-some : goal.returns-clause-some
returns-clause-some c = some_answer

pub returns-clause-one : goal.returns-clause-one
returns-clause-one c = λ t chips even tells trext levels left right. same_answer t trext levels left right

pub returns-clause-bits : goal.returns-clause-bits
returns-clause-bits c = λ t chips even tells trext levels left right. one_stream (record { table = t; chips = chips; even = even; tells = tells }) trext left right levels
