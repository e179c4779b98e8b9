use Rattle.runs.specs.ScenarioHistory.{start_of}
use Rattle.runs.proofs.CompleteRound.{counted-round}
use Rattle.runs.proofs.inventory.honest_rounds_count_tags.Goals as goal

pub returns-clause-run : goal.returns-clause-run
returns-clause-run c = λ start taken before after spec operations legal same honest apart.
    counted-round c.round_laws.ensures.limit c.round_facts.ensures
    (record { start = start; before = before; after = after; spec = spec; operations = operations }) taken legal same (record { honest = honest; apart = apart })

pub returns-clause-scenario : goal.returns-clause-scenario
returns-clause-scenario c = λ scenario before after spec operations is same honest apart.
    counted-round c.round_laws.ensures.limit c.round_facts.ensures
    (record { start = start_of scenario; before = before; after = after; spec = spec; operations = operations }) scenario.steps
    (c.scenario_steps_are_legal.ensures scenario is) same (record { honest = honest; apart = apart })
