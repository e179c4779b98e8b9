-- The law is a lemma of its own.
use Rattle.scenario_lines.proofs.LineReasons.{spelled_not_faulty}
use Rattle.scenario_lines.proofs.laws.spelled_lines_are_not_faulty.Goals as goal

pub returns : goal.returns
returns c = spelled_not_faulty
