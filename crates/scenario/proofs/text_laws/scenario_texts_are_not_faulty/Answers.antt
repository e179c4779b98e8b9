-- The law is a lemma of its own.
use Rattle.scenario.proofs.WholeTexts.{scenario_is_not_faulty}
use Rattle.scenario.proofs.text_laws.scenario_texts_are_not_faulty.Goals as goal

pub returns : goal.returns
returns c = scenario_is_not_faulty c.line_laws.ensures
