use Rattle.log_judge.proofs.OneVerdict.{no_stays, profile_stays}
use Rattle.log_judge.proofs.laws.verdicts_stay.Goals as goal

pub returns-clause-no : goal.returns-clause-no
returns-clause-no c = λ tag log more number want is. no_stays tag log more number want is

pub returns-clause-profile : goal.returns-clause-profile
returns-clause-profile c = λ tag log more number want verdict is other. profile_stays tag log more number want verdict is other
