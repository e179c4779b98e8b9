-- What the reader of a scenario does with a line, and with all of them.
use Rattle.std.specs.Prelude.{◌≡◌, ℕ, List, []}
use Rattle.checked_lines.specs.TextRules.{IsText}
use Rattle.scenario.specs.declared.values.Scenario.{Scenario}
use Rattle.checked_lines.specs.declared.fault.Unread.{Unread}
use Rattle.checked_lines.specs.declared.fault.Unread.TheVariants as unread
use Rattle.scenario.specs.declared.progress.Progress.{Progress}
use Rattle.scenario.specs.declared.progress.Progress.TheVariants.{Start, Begun, Linked, Within, Ended}
use Rattle.scenario.specs.Draft.{DraftValue, scenario_of}
use Rattle.scenario.specs.Standing.{ScenarioStanding, start, begun, linked, within, ended}
use Rattle.scenario.specs.Faults.{IsFaultyInScenario, ScenarioMayEnd, scenario_rules, unended_scenario_reason}

-- where the scenario stands when its reader has come so far
abbrev pub standing_of : Progress → ScenarioStanding
standing_of Start = start
standing_of (Begun version) = begun version
standing_of (Linked link) = linked link
standing_of (Within draft) = within draft
standing_of (Ended draft) = ended draft

-- why the line of this number is not taken
abbrev pub IsNotTaken : ScenarioStanding → List ℕ → ℕ → Unread → Type 0
IsNotTaken standing line number (unread.Line fault) = (fault.line ≡ number) × IsFaultyInScenario standing line fault.reason
IsNotTaken standing line number unread.OutOfMemory = Unit {0}

-- why no scenario is said, where these bytes stand behind the last line feed, as the line of this number
abbrev pub IsUnfinished : ScenarioStanding → List ℕ → ℕ → Unread → Type 0
IsUnfinished standing rest number (unread.Line fault) =
    (fault.line ≡ number) × (fault.reason ≡ unended_scenario_reason standing) × (rest ≡ [] → ¬ ScenarioMayEnd standing)
IsUnfinished standing rest number unread.OutOfMemory = Unit {0}

-- the lines up to there say the scenario
pub record StandsFor (standing : ScenarioStanding) (scenario : Scenario) : Type 0 where
  pub draft : DraftValue
  pub is : standing ≡ ended draft
  pub says : scenario_of draft ≡ scenario

-- the bytes are a text that says the scenario
pub record SaysScenario (bytes : List ℕ) (scenario : Scenario) : Type 0 where
  pub draft : DraftValue
  pub whole : IsText scenario_rules bytes (ended draft)
  pub says : scenario_of draft ≡ scenario
