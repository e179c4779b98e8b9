-- The law is a lemma of its own.
use Rattle.scenario_lines.proofs.SomeReason.{some_reason}
use Rattle.scenario_lines.proofs.laws.lines_say_something_or_are_faulty.Goals as goal

pub returns : goal.returns
returns c = some_reason
