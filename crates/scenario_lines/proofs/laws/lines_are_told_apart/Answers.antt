-- The law is a lemma of its own.
use Rattle.scenario_lines.proofs.ToldLines.{spelled_told}
use Rattle.scenario_lines.proofs.laws.lines_are_told_apart.Goals as goal

pub returns : goal.returns
returns c = spelled_told
