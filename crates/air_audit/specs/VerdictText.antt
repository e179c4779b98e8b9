-- Profile: the line that says whether a trace is audited.
use Rattle.std.specs.Prelude.{ℕ, List, [], ◌∷◌, ◌++◌, codes}
use Rattle.std.specs.Fmt.{decimal}
use Rattle.text_fields.specs.Lines.{line_feed}
use Rattle.air_audit.specs.declared.verdict.AuditReason.{AuditReason}
use Rattle.air_audit.specs.declared.verdict.AuditReason.TheVariants as reasons
use Rattle.air_audit.specs.declared.verdict.Verdict.{Verdict}
use Rattle.air_audit.specs.declared.verdict.Verdict.TheVariants.{Yes, No}

abbrev pub audit_reason_word : AuditReason → List ℕ
audit_reason_word reasons.End = codes "end"
audit_reason_word reasons.Extra = codes "extra"
audit_reason_word reasons.Blf = codes "blf"
audit_reason_word reasons.List = codes "list"
audit_reason_word reasons.Word = codes "word"
audit_reason_word reasons.Shape = codes "shape"
audit_reason_word reasons.Number = codes "number"
audit_reason_word reasons.Exchange = codes "exchange"
audit_reason_word reasons.Frame = codes "frame"
audit_reason_word reasons.Count = codes "count"
audit_reason_word reasons.Levels = codes "levels"
audit_reason_word reasons.Tag = codes "tag"

-- the line of a trace that is refused: the number of its line, and the reason
abbrev pub refused_line : ℕ → List ℕ → List ℕ
refused_line number reason = codes "no " ++ decimal number ++ codes " " ++ reason ++ line_feed ∷ []

abbrev pub verdict_line : Verdict → List ℕ
verdict_line Yes = codes "yes" ++ line_feed ∷ []
verdict_line (No number reason) = refused_line number (audit_reason_word reason)

-- the line for a scenario that has an event between two exchanges, of which no trace tells
abbrev pub event_line : List ℕ
event_line = refused_line 0 (codes "event")
