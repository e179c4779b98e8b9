use Rattle.scenario_lines.proofs.TagLaws.{banks-legal, sizes-fit}
use Rattle.scenario_lines.proofs.laws.tag_lines_fit_memories.Goals as goal

pub returns-clause-sizes : goal.returns-clause-sizes
returns-clause-sizes c = λ tag is. sizes-fit tag is.form

pub returns-clause-pc : goal.returns-clause-pc
returns-clause-pc c = λ tag is. is.pc

pub returns-clause-banks : goal.returns-clause-banks
returns-clause-banks c = banks-legal
