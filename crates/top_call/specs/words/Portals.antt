-- Profile: what `portals` writes for the bytes that it reads. The whole input is read before anything is written.
use Rattle.std.specs.Prelude.{◌≡◌, ◌⊎◌, ℕ, true, List, All, None, Some, codes}
use Rattle.top_call.specs.PortalFault.{portal_fault}
use Rattle.top_call.specs.PortalText.{portals_text}
use Rattle.runs.specs.PortalHistories.{ArePortalsIndependent, portals_told}
use Rattle.scenario.specs.declared.values.Scenario.{Scenario}
use Rattle.scenario.specs.Limits.{IsScenario}
use Rattle.scenario.specs.ScenarioText.{scenario_text}
use Rattle.text_fields.specs.FaultLine.{fault_line}
use Rattle.top_call.specs.Job.{Job}
use Rattle.top_call.specs.words.Run.{RefusesScenario}

-- the bytes spell a scenario of two portals
pub record IsPortalsText (bytes : List ℕ) : Type 0 where
  pub scenario : Scenario
  pub legal : IsScenario scenario
  pub spelled : bytes ≡ scenario_text scenario
  pub portals : portal_fault scenario ≡ None

-- the text has the lines of its two portals
pub record Compares (bytes text : List ℕ) : Type 0 where
  pub of : IsPortalsText bytes
  pub lines : text ≡ portals_text (portals_told of.scenario)

-- the text is the fault line of bytes that spell a scenario, but none of two portals
pub record RefusesPortal (bytes text : List ℕ) : Type 0 where
  pub scenario : Scenario
  pub legal : IsScenario scenario
  pub spelled : bytes ≡ scenario_text scenario
  pub number : ℕ
  pub fault : portal_fault scenario ≡ Some number
  pub line : text ≡ fault_line number (codes "portal")

-- the text is a fault line: of bytes that spell no scenario, or one that is none of two portals
abbrev pub RefusesPortals : List ℕ → List ℕ → Type 0
RefusesPortals bytes text = RefusesScenario bytes text ⊎ RefusesPortal bytes text

-- where each line says that its round ended quiet, the portals don't disturb each other
pub record ProvesPortals (bytes text : List ℕ) : Type 0 where
  pub compares : Compares bytes text
  pub independent : All (λ line. line.quiet ≡ true) (portals_told compares.of.scenario) → ArePortalsIndependent compares.of.scenario

-- the lines of the two portals of the scenario that the bytes spell
abbrev pub portals_job : Job
portals_job = record {
  input = true;
  allows = IsPortalsText;
  writes = Compares;
  refuses = RefusesPortals;
  promises = ProvesPortals;
}
