-- Profile: the verdict on a trace: it is audited, or the first line with which no audited trace goes on, with its first reason.
use Rattle.std.specs.Prelude.{ℕ, ◌<◌, List, ◌++◌, length, take}
use Rattle.text_fields.specs.Lines.{lines_of}
use Rattle.air_model.specs.Past.{Start, Item}
use Rattle.checked_lines.specs.TextRules.{Lead, IsFirstFault}
use Rattle.air_audit.specs.declared.verdict.AuditReason.{AuditReason}
use Rattle.air_audit.specs.declared.verdict.Verdict.{Verdict}
use Rattle.air_audit.specs.declared.verdict.Verdict.TheVariants.{Yes, No}
use Rattle.air_audit.specs.AuditedTrace.{IsAudited, trace_rules}
use Rattle.air_audit.specs.TraceOrder.{TraceStanding, begun, ended}

-- the first refused line of the bytes, counted from 1, with its first reason
abbrev pub IsFirstRefusal : Start → List ℕ → ℕ → AuditReason → Type 0
IsFirstRefusal start bytes number reason = IsFirstFault (trace_rules start) bytes number reason

-- the verdict is right
abbrev pub IsAuditVerdict : Start → List ℕ → Verdict → Type 0
IsAuditVerdict start bytes Yes = IsAudited start bytes
IsAuditVerdict start bytes (No number reason) = IsFirstRefusal start bytes number reason

-- the first so many of lines that stand here have their line feeds, and lines behind them lead to the end of a trace
pub record BeginTrace (start : Start) (from : TraceStanding) (lines : List (List ℕ)) (number : ℕ) : Type 0 where
  pub whole : number < length lines
  pub more : List (List ℕ)
  pub past : List Item
  pub leads : Lead (trace_rules start) from (take number lines ++ more) (ended past)

-- the first so many lines of the bytes have their line feeds and begin an audited trace
abbrev pub FirstTraceLinesBegin : Start → List ℕ → ℕ → Type 0
FirstTraceLinesBegin start bytes number = BeginTrace start begun (lines_of bytes) number

-- With the line of this number no audited trace goes on: fewer lines of the bytes begin one, and so many don't.
pub record IsFirstThatBeginsNone (start : Start) (bytes : List ℕ) (number : ℕ) : Type 0 where
  pub before : (fewer : ℕ) → fewer < number → FirstTraceLinesBegin start bytes fewer
  pub none : ¬ FirstTraceLinesBegin start bytes number
