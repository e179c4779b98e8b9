-- Seven fields spell a link, or none.
use Rattle.text_fields.proofs.FilledFields.{have_7}
use Rattle.scenario_lines.proofs.reading.link.read_parameters.Goals as goal

pub returns-in_default-clause-refused : goal.returns-in_default-clause-refused
returns-in_default-clause-refused c = λ are. have_7 c.args.others are c.in_default.ensures.only
