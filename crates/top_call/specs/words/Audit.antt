-- Profile: what `audit` writes for the bytes that it reads: a scenario and behind it a trace. The whole input is read before anything is
-- written.
use Rattle.std.specs.Prelude.{◌≡◌, ◌⊎◌, ℕ, true, List}
use Rattle.air_audit.specs.FirstRefusal.{IsAuditVerdict}
use Rattle.air_audit.specs.OwnTraces.{HasNoEventStep}
use Rattle.air_audit.specs.ReceivedLists.{ListsWhatIsReceived}
use Rattle.air_audit.specs.ScenarioAndTrace.{scenario_part, trace_part}
use Rattle.air_audit.specs.VerdictText.{event_line, verdict_line}
use Rattle.air_audit.specs.declared.verdict.Verdict.{Verdict}
use Rattle.air_audit.specs.declared.verdict.Verdict.TheVariants.{Yes}
use Rattle.runs.specs.ScenarioHistory.{start_of}
use Rattle.scenario.specs.Limits.{IsScenario}
use Rattle.scenario.specs.ScenarioText.{IsScenarioText, scenario_text}
use Rattle.scenario.specs.declared.values.Scenario.{Scenario}
use Rattle.top_call.specs.Job.{Job}
use Rattle.top_call.specs.words.Run.{RefusesScenario}

-- the text says whether a trace is one of the scenario
pub record SaysVerdict (scenario : Scenario) (trace text : List ℕ) : Type 0 where
  pub told : HasNoEventStep scenario.steps
  pub verdict : Verdict
  pub right : IsAuditVerdict (start_of scenario) trace verdict
  pub line : text ≡ verdict_line verdict

-- the scenario has an event between two exchanges, of which no trace tells, and the text is the line that says so
pub record SaysEvent (scenario : Scenario) (text : List ℕ) : Type 0 where
  pub untold : ¬ HasNoEventStep scenario.steps
  pub line : text ≡ event_line

-- the text is what is said of the trace behind the scenario that the bytes begin with
pub record Audits (bytes text : List ℕ) : Type 0 where
  pub scenario : Scenario
  pub legal : IsScenario scenario
  pub spelled : scenario_part bytes ≡ scenario_text scenario
  pub says : SaysEvent scenario text ⊎ SaysVerdict scenario (trace_part bytes) text

-- where the answer is yes, each list line of the trace says the PC and the EPC that are received of the levels before it
abbrev pub SaysReceived : List ℕ → List ℕ → Type 0
SaysReceived bytes text =
    (scenario : Scenario) → IsScenario scenario → scenario_part bytes ≡ scenario_text scenario → text ≡ verdict_line Yes
    → ListsWhatIsReceived scenario.link (trace_part bytes)

-- whether the trace behind a scenario is one of it
abbrev pub audit_job : Job
audit_job = record {
  input = true;
  allows = λ bytes. IsScenarioText (scenario_part bytes);
  writes = Audits;
  refuses = λ bytes text. RefusesScenario (scenario_part bytes) text;
  promises = SaysReceived;
}
