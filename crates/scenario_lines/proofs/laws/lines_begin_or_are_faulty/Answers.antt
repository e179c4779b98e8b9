-- The law is a lemma of its own.
use Rattle.scenario_lines.proofs.SomeReason.{some_keyword}
use Rattle.scenario_lines.proofs.laws.lines_begin_or_are_faulty.Goals as goal

pub returns : goal.returns
returns c = some_keyword
