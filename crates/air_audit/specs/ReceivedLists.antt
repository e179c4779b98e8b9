-- Profile: what the list lines of a trace say of the lines before them.
use Rattle.std.specs.Prelude.{◌≡◌, ℕ, Bool, List, [], ◌∷◌, ◌++◌, codes}
use Rattle.command_grammar.specs.declared.commands.Command.TheVariants as commands
use Rattle.reply_wire.specs.Codes.{table_of}
use Rattle.pie_line.specs.Link.{LinkValue}
use Rattle.reply_grammar.specs.declared.expected.Expect.TheVariants as expects
use Rattle.reply_grammar.specs.declared.expected.Received.TheVariants.{Whole}
use Rattle.reply_grammar.specs.declared.expected.Reply.TheVariants as replies
use Rattle.reply_wire.specs.Received.{IsReceived}
use Rattle.report_lines.specs.ReadLines.{text_of, first_field}
use Rattle.report_lines.specs.ReportLine.{RxLine}
use Rattle.runs.specs.Listing.{Listed}
use Rattle.runs.specs.Report.{list_line}
use Rattle.text_fields.specs.Lines.{lines_of}
use Rattle.air_audit.specs.TraceLines.{Sends}

-- The list line says the PC and the EPC that are received whole (by 6.3.1.3.2 and 6.3.2.11.2.4) of the levels in the rx line of an
-- exchange, whose tx line sends an ACK.
pub record IsWhatIsReceived (link : LinkValue) (tx rx line : List ℕ) : Type 0 where
  pub exchange : ℕ
  pub rn : ℕ
  pub count : ℕ
  pub levels : List Bool
  pub listed : Listed
  pub sends : Sends exchange tx (commands.Ack rn)
  pub heard : rx ≡ text_of (RxLine exchange count levels)
  pub received : IsReceived (table_of link.code) link.trext expects.Epc levels (Whole (replies.Epc listed.pc listed.epc))
  pub text : line ≡ text_of (list_line listed)

-- a list line says the PC and the EPC that are received in the exchange whose tx line and rx line stand directly before it
pub record IsReceivedBefore (link : LinkValue) (before : List (List ℕ)) (line : List ℕ) : Type 0 where
  pub earlier : List (List ℕ)
  pub tx : List ℕ
  pub rx : List ℕ
  pub before_is : before ≡ earlier ++ tx ∷ rx ∷ []
  pub is : IsWhatIsReceived link tx rx line

-- each list line of the bytes does so
abbrev pub ListsWhatIsReceived : LinkValue → List ℕ → Type 0
ListsWhatIsReceived link bytes =
    (before : List (List ℕ)) (line : List ℕ) (behind : List (List ℕ)) → lines_of bytes ≡ before ++ line ∷ behind → first_field line ≡ codes "list"
    → IsReceivedBefore link before line
