-- The law is a lemma of its own.
use Rattle.scenario_lines.proofs.LineShapes.{begins_once}
use Rattle.scenario_lines.proofs.laws.lines_begin_with_one_keyword.Goals as goal

pub returns : goal.returns
returns c = begins_once
