-- Five fields spell what a Select names, or nothing.
use Rattle.text_fields.proofs.FilledFields.{have_5}
use Rattle.scenario_lines.proofs.reading.select.read_select.Goals as goal

pub returns-in_default-clause-refused : goal.returns-in_default-clause-refused
returns-in_default-clause-refused c = λ are. have_5 c.args.others are c.in_default.ensures.only
