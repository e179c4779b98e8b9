-- The law is a lemma of its own.
use Rattle.scenario.proofs.SomeFault.{text_or_fault}
use Rattle.scenario.proofs.text_laws.texts_are_scenarios_or_faulty.Goals as goal

pub returns : goal.returns
returns c = text_or_fault c.line_laws.ensures
