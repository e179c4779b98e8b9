-- The law is a lemma of its own.
use Rattle.scenario.proofs.WholeTexts.{scenario_told}
use Rattle.scenario.proofs.text_laws.scenarios_are_told_apart.Goals as goal

pub returns : goal.returns
returns c = scenario_told c.line_laws.ensures
