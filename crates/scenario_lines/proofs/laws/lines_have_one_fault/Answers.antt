-- The law is a lemma of its own.
use Rattle.scenario_lines.proofs.LineReasons.{faulty_once}
use Rattle.scenario_lines.proofs.laws.lines_have_one_fault.Goals as goal

pub returns : goal.returns
returns c = faulty_once
