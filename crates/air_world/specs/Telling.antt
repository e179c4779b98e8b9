-- Profile: what a run tells, and who has heard it.
use Rattle.std.specs.Prelude.{◌≡◌, ◌⊎◌, List, ◌++◌, Option, Some, None, Result, Ok, Err}
use Rattle.air_channel.specs.Air.{AirValue}
use Rattle.air_model.specs.Past.{Start, Item, exchanges_in, tags_behind}
use Rattle.report_lines.specs.ReportLine.{ReportLine}
use Rattle.report_lines.specs.declared.mode.PlayFault.{PlayFault}
use Rattle.report_lines.specs.declared.mode.PlayFault.TheVariants.{OutOfMemory}
use Rattle.runs.specs.Report.{past_lines, run_lines}
use Rattle.runs.specs.ScenarioHistory.{start_of, history}
use Rattle.scenario.specs.declared.values.Scenario.{Scenario}

-- All that a run has to tell of a past is told. What of it stays unsaid is the listener's choice.
abbrev pub lines_to_tell : Start → List Item → List ReportLine
lines_to_tell start past = past_lines start.link past

-- these lines are told: who had heard some lines has then heard these behind them
pub record IsToldWhole {A : Type 0} (hears : A → List ReportLine → A → Type 0) (lines : List ReportLine) (old new : A) : Type 0 where
  pub on : (first : A) (before : List ReportLine) → hears first before old → hears first (before ++ lines) new

-- a run was cut off by this fault, and a front of these lines was heard
pub record IsCut (Heard : List ReportLine → Type 0) (Cause : PlayFault → Type 0) (whole : List ReportLine) (fault : PlayFault) : Type 0 where
  pub front : List ReportLine
  pub rest : List ReportLine
  pub split : whole ≡ front ++ rest
  pub heard : Heard front
  pub cause : Cause fault

-- a run was cut off by this fault, which is the first of the listener, and a front of these lines was heard
abbrev pub IsCutOff : {A : Type 0} → (A → List ReportLine → A → Type 0) → (A → Option PlayFault) → (first new : A) → (whole : List ReportLine) → PlayFault → Type 0
IsCutOff hears failed first new = IsCut (λ lines. hears first lines new) (λ fault. failed new ≡ Some fault)

-- a run was cut off by the first fault of the listener, or by lack of memory where it met none; a front of these lines was heard, and no more
abbrev pub IsCutShort : {A : Type 0} → (A → List ReportLine → A → Type 0) → (A → Option PlayFault) → (old new : A) → (whole : List ReportLine) → PlayFault → Type 0
IsCutShort hears failed old new = IsCut (λ lines. hears old lines new) (λ fault. (failed new ≡ Some fault) ⊎ ((fault ≡ OutOfMemory) × (failed new ≡ None)))

-- this holds at an end, and that of the fault where it was cut off
abbrev pub EndsOrFails : {T : Type 0} → Result T PlayFault → Type 0 → (PlayFault → Type 0) → Type 0
EndsOrFails (Ok done) Whole CutOff = Whole
EndsOrFails (Err fault) Whole CutOff = CutOff fault

-- A run was told whole, and its air is what the history made of it.
pub record IsPlayed {A : Type 0} (hears : A → List ReportLine → A → Type 0) (failed : A → Option PlayFault) (scenario : Scenario) (old new : A) (air : AirValue) : Type 0 where
  pub told : hears old (run_lines (start_of scenario) scenario.steps) new
  pub faultless : failed new ≡ None
  pub tags : air.tags ≡ tags_behind (start_of scenario) (history scenario)
  pub exchanges : air.exchanges ≡ exchanges_in (history scenario)

-- a run was told whole, or cut short
abbrev pub PlaysOrFails : {A : Type 0} → (A → List ReportLine → A → Type 0) → (A → Option PlayFault) → Result (Unit {0}) PlayFault → Scenario → (old new : A) → AirValue → Type 0
PlaysOrFails hears failed result scenario old new air =
    EndsOrFails result (IsPlayed hears failed scenario old new air) (IsCutShort hears failed old new (run_lines (start_of scenario) scenario.steps))
