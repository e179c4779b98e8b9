use Rattle.log_judge.proofs.OneVerdict.{one_verdict, some_verdict}
use Rattle.log_judge.proofs.laws.logs_have_one_verdict.Goals as goal

pub returns-clause-some : goal.returns-clause-some
returns-clause-some c = λ tag log legal. some_verdict tag log legal

pub returns-clause-one : goal.returns-clause-one
returns-clause-one c = λ tag log one other left right. one_verdict tag log one other left right
