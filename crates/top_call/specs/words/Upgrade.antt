-- Profile: what `upgrade` writes for the bytes that it reads. The whole input is read before anything is written.
use Rattle.std.specs.Prelude.{◌≡◌, ◌↔◌, ℕ, true, List}
use Rattle.scenario.specs.declared.values.Scenario.{Scenario}
use Rattle.scenario.specs.Limits.{IsScenario}
use Rattle.scenario.specs.Upgraded.{upgraded}
use Rattle.scenario.specs.ScenarioText.{IsScenarioText, scenario_text}
use Rattle.report_lines.specs.declared.mode.Mode.{Mode}
use Rattle.top_call.specs.Job.{Job}
use Rattle.top_call.specs.words.Run.{Reports, RefusesScenario}

-- the text is that of the scenario that the bytes spell, in version 2
pub record Upgrades (bytes text : List ℕ) : Type 0 where
  pub scenario : Scenario
  pub legal : IsScenario scenario
  pub spelled : bytes ≡ scenario_text scenario
  pub upgrade : text ≡ scenario_text (upgraded scenario)

-- the text is that of a scenario too, whose reports are those of the bytes; and it is what is written for itself
pub record ProvesUpgrade (bytes text : List ℕ) : Type 0 where
  pub upgrades : Upgrades bytes text
  pub is_text : IsScenarioText text
  pub same_report : (mode : Mode) (report : List ℕ) → Reports mode text report ↔ Reports mode bytes report
  pub once : Upgrades text text

-- the text of the scenario that the bytes spell, in version 2
abbrev pub upgrade_job : Job
upgrade_job = record {
  input = true;
  allows = IsScenarioText;
  writes = Upgrades;
  refuses = RefusesScenario;
  promises = ProvesUpgrade;
}
