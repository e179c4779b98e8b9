use Rattle.tag_machine.proofs.LegalEvents.{event_keeps}
use Rattle.tag_machine.proofs.StepFacts.{step_facts}
use Rattle.tag_machine.proofs.laws.steps_keep_tags_legal.Goals as goal

pub returns-clause-heard : goal.returns-clause-heard
returns-clause-heard c = λ command state body legal before. (step_facts command state body).legal legal before

pub returns-clause-befallen : goal.returns-clause-befallen
returns-clause-befallen c = λ event state body before. event_keeps event state body before
