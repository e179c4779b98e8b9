-- The limits of a scenario, as the laws of its run take them.
use Rattle.runs.proofs.Names.{ℕ, List, [], ◌∷◌, length, recursion_from_All, AllByRecursion, IsSelect, IsLegalStep, AreLegalSteps, Command, tags_of, IsStep, IsScenario, Scenario, Step, Version}
use Rattle.command_grammar.specs.declared.commands.Command.TheVariants as commands
use Rattle.scenario.specs.declared.values.Step.TheVariants as steps

legal-select : (version : Version) (tags : ℕ) (command : Command) → IsStep version tags (steps.Select command) → IsSelect command
legal-select version tags (commands.Select target action bank pointer mask) is = tt
legal-select version tags command is = absurd is

pub legal-step : (version : Version) (tags : ℕ) (step : Step) → IsStep version tags step → IsLegalStep step
legal-step version tags (steps.Select command) is = legal-select version tags command is
legal-step version tags (steps.Round spec operations) is = record { legal = is.0.legal; few = is.1.few }
legal-step version tags step is = tt

legal-each : (version : Version) (tags : ℕ) (steps : List Step) → AllByRecursion (IsStep version tags) steps → AreLegalSteps steps
legal-each version tags [] are = tt
legal-each version tags (step ∷ later) are = (legal-step version tags step are.0, legal-each version tags later are.1)

pub legal-steps : (scenario : Scenario) → IsScenario scenario → AreLegalSteps scenario.steps
legal-steps scenario is =
    let tags = length (tags_of scenario.groups) in
    legal-each scenario.version tags scenario.steps (recursion_from_All (IsStep scenario.version tags) scenario.steps is.steps)
