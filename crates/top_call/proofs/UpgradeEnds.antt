-- The texts of `upgrade`, by the laws of scenarios.
use Rattle.std.proofs.Common.{◌≡◌, ℕ, List, sym, ◌∙◌, ap}
use Rattle.report_lines.specs.declared.mode.Mode.{Mode}
use Rattle.runs.specs.Report.{report_text_of}
use Rattle.scenario.specs.declared.values.Scenario.{Scenario}
use Rattle.scenario.specs.Limits.{IsScenario}
use Rattle.scenario.specs.Upgraded.{upgraded}
use Rattle.scenario.specs.ScenarioText.{scenario_text}
use Rattle.top_call.specs.words.Run.{Reports}
use Rattle.top_call.specs.words.Upgrade.{Upgrades, ProvesUpgrade}
use Rattle.top_call.proofs.RunEnds.{AreToldApart}

-- what the laws of upgraded scenarios say: they keep the limits,
abbrev pub AreLegal : Type 0
AreLegal = (scenario : Scenario) → IsScenario scenario → IsScenario (upgraded scenario)

-- and have the same report
abbrev pub ReportTheSame : Type 0
ReportTheSame = (mode : Mode) (scenario : Scenario) → report_text_of mode (upgraded scenario) ≡ report_text_of mode scenario

-- the report of bytes is that of the scenario that they spell
report_is : AreToldApart → (mode : Mode) (bytes report : List ℕ) (scenario : Scenario) → IsScenario scenario → bytes ≡ scenario_text scenario → Reports mode bytes report
    → report ≡ report_text_of mode scenario
report_is told_apart mode bytes report scenario legal spelled reports =
    reports.report ∙ ap (report_text_of mode) (told_apart reports.scenario scenario reports.legal legal (sym reports.spelled ∙ spelled))

-- what is proved of the text: its reports are those of the input
pub proves : AreToldApart → AreLegal → ReportTheSame → (bytes text : List ℕ) → Upgrades bytes text → ProvesUpgrade bytes text
proves told_apart legal same bytes text writes =
    let scenario = writes.scenario in
    let upgraded_legal = legal scenario writes.legal in
    record {
      upgrades = writes;
      is_text = (upgraded scenario, upgraded_legal, writes.upgrade);
      same_report = λ mode report. (
        λ reports. record {
          scenario = scenario;
          legal = writes.legal;
          spelled = writes.spelled;
          report = report_is told_apart mode text report (upgraded scenario) upgraded_legal writes.upgrade reports ∙ same mode scenario;
        },
        λ reports. record {
          scenario = upgraded scenario;
          legal = upgraded_legal;
          spelled = writes.upgrade;
          report = report_is told_apart mode bytes report scenario writes.legal writes.spelled reports ∙ sym (same mode scenario);
        },
      );
      once = record { scenario = upgraded scenario; legal = upgraded_legal; spelled = writes.upgrade; upgrade = writes.upgrade };
    }
