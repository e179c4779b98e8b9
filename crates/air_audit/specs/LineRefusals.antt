-- Profile: the first reason for which a line doesn't follow, in the order of the table of reasons: end, extra, blf, list, word,
-- shape, number, exchange, frame, count, levels, tag.
use Rattle.std.specs.Fmt.{decimal}
use Rattle.std.specs.Prelude.{◌≡◌, ◌≢◌, ◌⊎◌, ℕ, ◌+◌, Bool, List, [], ◌∷◌, length}
use Rattle.text_fields.specs.declared.fields_fault.FieldsFault.{FieldsFault}
use Rattle.text_fields.specs.declared.fields_fault.FieldsFault.TheVariants as faults
use Rattle.command_grammar.specs.declared.commands.Command.{Command}
use Rattle.air_model.specs.Channel.{heard_levels}
use Rattle.air_model.specs.Past.{Start, Record, exchanges_in}
use Rattle.report_lines.specs.ReadLines.{text_of, HasTxShape, HasRxShape, TxFields, RxFields}
use Rattle.report_lines.specs.ReportLine.{ReportLine}
use Rattle.runs.specs.Report.{list_line}
use Rattle.air_audit.specs.declared.trace_line_words.Word.{Word}
use Rattle.air_audit.specs.declared.trace_line_words.Word.TheVariants as words
use Rattle.air_audit.specs.declared.verdict.AuditReason.{AuditReason}
use Rattle.air_audit.specs.declared.verdict.AuditReason.TheVariants as reasons
use Rattle.air_audit.specs.TraceLineWords.{word_of_line}
use Rattle.air_audit.specs.TraceOrder.{TraceStanding, begun, between, sending, listing, telling, ended, link_line, rx_line, told_line, next_tag}
use Rattle.air_audit.specs.TraceLines.{Sends}

-- a line whose fields are not of their forms is refused for this reason
abbrev pub audit_reason_of : FieldsFault → AuditReason
audit_reason_of faults.Word = reasons.Word
audit_reason_of faults.Shape = reasons.Shape
audit_reason_of faults.Number = reasons.Number

-- what is looked for in a line, and why the line is refused where it isn't so
pub record LinePart : Type 1 where
  pub holds : Type 0
  pub reason : AuditReason

-- the reason of the first that isn't so
abbrev pub FirstFails : List LinePart → AuditReason → Type 0
FirstFails [] reason = ⊥
FirstFails (part ∷ parts) reason = ((¬ part.holds) × (reason ≡ part.reason)) ⊎ (part.holds × FirstFails parts reason)

-- a line that begins with tx sends a command in the exchange
abbrev pub tx_parts : ℕ → List ℕ → List LinePart
tx_parts exchange line =
    record { holds = HasTxShape line; reason = reasons.Shape }
    ∷ record { holds = TxFields line; reason = reasons.Number }
    ∷ record { holds = (tx : TxFields line) × (tx.exchange ≡ decimal exchange); reason = reasons.Exchange }
    ∷ record { holds = (command : Command) × Sends exchange line command; reason = reasons.Frame } ∷ []

-- one that begins with rx is that of so many replies and these levels in the exchange
abbrev pub rx_parts : (exchange count : ℕ) → List Bool → List ℕ → List LinePart
rx_parts exchange count levels line =
    record { holds = HasRxShape line; reason = reasons.Shape }
    ∷ record { holds = RxFields line; reason = reasons.Number }
    ∷ record { holds = (rx : RxFields line) × (rx.exchange ≡ decimal exchange); reason = reasons.Exchange }
    ∷ record { holds = (rx : RxFields line) × (rx.exchange ≡ decimal exchange) × (rx.count ≡ decimal count); reason = reasons.Count }
    ∷ record {
      holds = (rx : RxFields line) × (rx.exchange ≡ decimal exchange) × (rx.count ≡ decimal count) × (rx.levels ≡ levels);
      reason = reasons.Levels;
    } ∷ []

-- the first reason for which a line that begins with tx sends no command in the exchange
abbrev pub IsNoTxLine : ℕ → List ℕ → AuditReason → Type 0
IsNoTxLine exchange line reason = FirstFails (tx_parts exchange line) reason

-- the first part in which a line that begins with rx isn't that of so many replies and these levels in the exchange
abbrev pub DiffersFirst : (exchange count : ℕ) → List Bool → List ℕ → AuditReason → Type 0
DiffersFirst exchange count levels line reason = FirstFails (rx_parts exchange count levels line) reason

-- the line isn't that of the record, for this reason first
pub record IsNoRxLine (start : Start) (sent : Record) (line : List ℕ) (reason : AuditReason) : Type 0 where
  pub other : line ≢ text_of (rx_line start sent)
  pub first : DiffersFirst sent.exchange (length sent.replies) (heard_levels start.link sent.given) line reason

-- the line isn't this one, and is refused for that
abbrev pub IsOther : ReportLine → AuditReason → List ℕ → AuditReason → Type 0
IsOther expected why line reason = (reason ≡ why) × (line ≢ text_of expected)

-- the first reason for which a line that has its line feed, and begins with this word, doesn't follow
abbrev pub IsRefusedAs : Start → TraceStanding → Word → List ℕ → AuditReason → Type 0
-- line 1 is that of the link
IsRefusedAs start begun word line reason = IsOther (link_line start.link) reasons.Blf line reason
-- a list line must stand here, and else stands nowhere
IsRefusedAs start (listing past listed) word line reason = IsOther (list_line listed) reasons.List line reason
IsRefusedAs start (ended past) word line reason = reason ≡ reasons.Extra
IsRefusedAs start standing words.List line reason = reason ≡ reasons.List
IsRefusedAs start (between past) words.Tx line reason = IsNoTxLine (exchanges_in past + 1) line reason
IsRefusedAs start (between past) words.Unjudged line reason = ⊥
IsRefusedAs start (between past) words.OfTags line reason = IsOther (told_line 0 (next_tag start past 0)) reasons.Tag line reason
IsRefusedAs start (sending past sent) words.Rx line reason = IsNoRxLine start sent line reason
IsRefusedAs start (telling past told) words.OfTags line reason = IsOther (told_line told (next_tag start past told)) reasons.Tag line reason
IsRefusedAs start standing word line reason = reason ≡ reasons.Word

-- the first reason for which a line that has its line feed doesn't follow
abbrev pub IsRefusedHere : Start → TraceStanding → List ℕ → AuditReason → Type 0
IsRefusedHere start from line reason = IsRefusedAs start from (word_of_line line) line reason
