use Rattle.std.proofs.Common.{[], arith}
use Rattle.runs.proofs.HeadlineCounts.{steps-exchanges, few-exchanges}
use Rattle.runs.proofs.laws.exchanges_are_few.Goals as goal

pub returns-clause-most : goal.returns-clause-most
returns-clause-most c = λ start steps legal. omega (arith, steps-exchanges c.round_laws.ensures.limit start steps [] legal)

pub returns-clause-few : goal.returns-clause-few
returns-clause-few c = λ start steps legal.
    omega (arith, steps-exchanges c.round_laws.ensures.limit start steps [] legal, few-exchanges steps legal)
