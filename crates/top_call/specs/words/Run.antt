-- Profile: what `run` writes in each of its modes for the bytes that it reads. The whole input is read before a line is written.
use Rattle.std.specs.Prelude.{◌≡◌, ℕ, true, List}
use Rattle.scenario.specs.declared.values.Scenario.{Scenario}
use Rattle.checked_lines.specs.declared.fault.FaultReason.{FaultReason}
use Rattle.scenario.specs.Limits.{IsScenario}
use Rattle.scenario.specs.ScenarioText.{IsScenarioText, scenario_text}
use Rattle.scenario.specs.Faults.{IsFirstScenarioFault}
use Rattle.checked_lines.specs.FaultWords.{reason_word}
use Rattle.text_fields.specs.FaultLine.{fault_line}
use Rattle.report_lines.specs.declared.mode.Mode.{Mode}
use Rattle.report_lines.specs.declared.mode.Mode.TheVariants.{Trace}
use Rattle.air_audit.specs.AuditedTrace.{IsAudited}
use Rattle.air_audit.specs.OwnTraces.{HasNoEventStep}
use Rattle.runs.specs.CompleteRounds.{RoundsAreComplete}
use Rattle.runs.specs.Headline.{Headline, AreHeardAsListed}
use Rattle.runs.specs.Report.{report_of, report_text_of}
use Rattle.runs.specs.ScenarioHistory.{history, start_of}
use Rattle.top_call.specs.Job.{Job}

-- the text is the report of the scenario that the bytes spell
pub record Reports (mode : Mode) (bytes text : List ℕ) : Type 0 where
  pub scenario : Scenario
  pub legal : IsScenario scenario
  pub spelled : bytes ≡ scenario_text scenario
  pub report : text ≡ report_text_of mode scenario

-- the text is the fault line of bytes that spell no scenario
pub record RefusesScenario (bytes text : List ℕ) : Type 0 where
  pub number : ℕ
  pub fault : FaultReason
  pub first : IsFirstScenarioFault bytes number fault
  pub line : text ≡ fault_line number (reason_word fault)

-- the text is the report of the scenario that the bytes spell, and with its one history it says the headline; each EPC in it is one
-- that was heard
pub record SaysHeadline (mode : Mode) (bytes text : List ℕ) : Type 0 where
  pub reports : Reports mode bytes text
  pub headline : Headline (start_of reports.scenario) reports.scenario.steps (history reports.scenario)
      (report_of mode (start_of reports.scenario) reports.scenario.steps)
  pub heard_as_listed : AreHeardAsListed (start_of reports.scenario) (history reports.scenario)
      (report_of mode (start_of reports.scenario) reports.scenario.steps)

-- the text is the report of the scenario that the bytes spell, and its honest rounds prove which tags each lists, and what it leaves of
-- every tag
pub record SaysInventory (mode : Mode) (bytes text : List ℕ) : Type 0 where
  pub reports : Reports mode bytes text
  pub rounds : RoundsAreComplete reports.scenario

-- the text is the trace of the scenario that the bytes spell, and where no step is an event, it is audited
pub record IsOwnTrace (bytes text : List ℕ) : Type 0 where
  pub reports : Reports Trace bytes text
  pub audited : HasNoEventStep reports.scenario.steps → IsAudited (start_of reports.scenario) text

-- what a run proves of its report
pub record ProvesRun (mode : Mode) (bytes text : List ℕ) : Type 0 where
  pub headline : SaysHeadline mode bytes text
  pub inventory : SaysInventory mode bytes text
  pub own_trace : mode ≡ Trace → IsOwnTrace bytes text

-- the report of the scenario that the bytes spell
abbrev pub run_job : Mode → Job
run_job mode = record {
  input = true;
  allows = IsScenarioText;
  writes = Reports mode;
  refuses = RefusesScenario;
  promises = ProvesRun mode;
}
