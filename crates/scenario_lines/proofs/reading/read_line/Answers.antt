use Rattle.scenario_lines.specs.LineBeginnings.{spelled_begins}
use Rattle.scenario_lines.specs.Spelling.{keyword_of}
use Rattle.scenario_lines.proofs.reading.read_line.Goals as goal

pub returns-in-None-clause-only : goal.returns-in-None-clause-only
returns-in-None-clause-only c = λ said spells. c.in-None.ensures.none (keyword_of said) (spelled_begins _ said spells)
