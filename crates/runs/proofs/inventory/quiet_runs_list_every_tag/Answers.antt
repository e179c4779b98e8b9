use Rattle.runs.proofs.Names.{◌∷◌, []}
use Rattle.scenario.specs.declared.values.Step.TheVariants as steps
use Rattle.runs.proofs.EveryTag.{every-tag}
use Rattle.runs.proofs.inventory.quiet_runs_list_every_tag.Goals as goal

pub returns : goal.returns
returns c = λ start spec operations slots past legal part own silent none apart quiet.
    let honest = c.rounds_are_honest_where_nothing_is_said.ensures.run start (steps.Round spec operations ∷ []) 1 operations none silent in
    every-tag c.round_laws.ensures.limit c.round_facts.ensures start spec operations slots past
    (record { legal = legal; part = part; own = own; silent = silent; fair = record { honest = honest; apart = apart } }) quiet
