-- Profile: which bytes are a trace that the standard's tags and the channel account for, by the rules of a text.
use Rattle.std.specs.Prelude.{ℕ, List}
use Rattle.air_model.specs.Past.{Start, Item}
use Rattle.checked_lines.specs.TextRules.{TextRules, IsText}
use Rattle.air_audit.specs.declared.verdict.AuditReason.{AuditReason}
use Rattle.air_audit.specs.declared.verdict.AuditReason.TheVariants as reasons
use Rattle.air_audit.specs.LineRefusals.{IsRefusedHere}
use Rattle.air_audit.specs.TraceOrder.{TraceStanding, TraceGoesOn, begun, ended}

-- a trace ends behind its last line
abbrev pub TraceMayEnd : TraceStanding → Type 0
TraceMayEnd (ended past) = Unit {0}
TraceMayEnd standing = ⊥

-- the rules of the text of a trace behind this start
abbrev pub trace_rules : Start → TextRules TraceStanding AuditReason
trace_rules start = record {
  start = begun;
  leads = TraceGoesOn start;
  is_faulty = IsRefusedHere start;
  may_end = TraceMayEnd;
  unended = λ standing. reasons.End;
}

-- The bytes are lines that lead from the first to the last, each with its line feed, and nothing stands behind them. The past is
-- the records that they determine, the latest first.
abbrev pub IsTraceOf : Start → List ℕ → List Item → Type 0
IsTraceOf start bytes past = IsText (trace_rules start) bytes (ended past)

-- the trace is audited
abbrev pub IsAudited : Start → List ℕ → Type 0
IsAudited start bytes = (past : List Item) × IsTraceOf start bytes past
