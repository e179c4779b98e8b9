use Rattle.runs.proofs.Names.{subst, ◌∙◌, AreLegalSteps}
use Rattle.runs.proofs.Recounting.{listed-from-any, listed-from-fresh}
use Rattle.runs.proofs.recounts.recounts_list_every_tag.Goals as goal

pub returns-clause-fresh : goal.returns-clause-fresh
returns-clause-fresh c = λ recount unsound number tag legal is many numbered there fresh.
    listed-from-fresh c.round_laws.ensures.limit c.round_facts.ensures recount legal number tag numbered unsound is many there fresh

pub returns-clause-any : goal.returns-clause-any
returns-clause-any c = λ recount unsound number tag legal is many numbered there.
    listed-from-any c.round_laws.ensures.limit c.round_facts.ensures recount legal number tag numbered unsound is many there

pub returns-clause-scenario_fresh : goal.returns-clause-scenario_fresh
returns-clause-scenario_fresh c = λ scenario recount unsound number tag legal start same is many numbered there fresh.
    listed-from-fresh c.round_laws.ensures.limit c.round_facts.ensures recount
    (subst AreLegalSteps same (c.scenario_steps_are_legal.ensures scenario legal)) number tag numbered unsound is many there fresh

pub returns-clause-scenario_any : goal.returns-clause-scenario_any
returns-clause-scenario_any c = λ scenario recount unsound number tag legal start same is many numbered there.
    listed-from-any c.round_laws.ensures.limit c.round_facts.ensures recount
    (subst AreLegalSteps same (c.scenario_steps_are_legal.ensures scenario legal)) number tag numbered unsound is many there
