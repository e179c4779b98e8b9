use Rattle.tag_machine.proofs.DrawPlaces.{word_is, after_is}
use Rattle.tag_machine.proofs.StepFacts.{step_facts}
use Rattle.tag_machine.proofs.laws.draw_laws.Goals as goal

pub returns-clause-word : goal.returns-clause-word
returns-clause-word c = λ draws body inside. word_is draws body inside

pub returns-clause-after : goal.returns-clause-after
returns-clause-after c = λ draws body inside. after_is draws body inside

pub returns-clause-place : goal.returns-clause-place
returns-clause-place c = λ command state body. (step_facts command state body).next_draw

pub returns-clause-words : goal.returns-clause-words
returns-clause-words c = λ command state body. (step_facts command state body).words
