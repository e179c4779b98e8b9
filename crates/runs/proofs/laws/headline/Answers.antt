use Rattle.runs.specs.ScenarioHistory.{start_of}
use Rattle.runs.proofs.HeadlineAll.{headline-holds}
use Rattle.runs.proofs.HeadlineHeard.{heard-as-listed}
use Rattle.runs.proofs.laws.headline.Goals as goal

pub returns-clause-run : goal.returns-clause-run
returns-clause-run c = headline-holds c.round_laws.ensures.limit

pub returns-clause-scenario : goal.returns-clause-scenario
returns-clause-scenario c = λ mode scenario is.
    headline-holds c.round_laws.ensures.limit mode (start_of scenario) scenario.steps (c.scenario_steps_are_legal.ensures scenario is)

pub returns-clause-heard_as_listed : goal.returns-clause-heard_as_listed
returns-clause-heard_as_listed c = λ mode scenario is.
    heard-as-listed c.round_laws.ensures.limit
    (record { rows = c.answers_are_replies.ensures.reply; range = c.answers_are_replies.ensures.legal; stays = c.steps_keep_tags_legal.ensures.befallen })
    mode scenario (c.scenario_steps_are_legal.ensures scenario is) (λ later earlier split. c.histories_keep_tags_legal.ensures scenario later earlier is split)
