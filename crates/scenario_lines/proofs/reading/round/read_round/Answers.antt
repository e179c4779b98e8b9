-- Six fields spell the parameters of a round, or none.
use Rattle.text_fields.proofs.FilledFields.{have_6}
use Rattle.scenario_lines.proofs.reading.round.read_round.Goals as goal

pub returns-in_default-clause-refused : goal.returns-in_default-clause-refused
returns-in_default-clause-refused c = λ are. have_6 c.args.others are c.in_default.ensures.only
