-- Profile: an audit that is under way. A contract says of each part of it how the trace goes on with a line, or why it doesn't.
use Rattle.std.specs.Prelude.{◌≡◌, ◌≢◌, ℕ, ◌+◌, ◌<◌, ◌≤◌, Bool, List, [], ◌∷◌, All, length, Option, Some, None, Result, Ok, Err}
use Rattle.air_events.specs.Cursor.{AreEntriesLeft}
use Rattle.air_events.specs.Entries.{Rises, entry_at}
use Rattle.air_events.specs.Streams.{HasStreamLength}
use Rattle.air_events.specs.TagNumbers.{most_tags}
use Rattle.air_events.specs.declared.Choice.{Choice}
use Rattle.air_events.specs.declared.Choice.TheVariants as choices
use Rattle.air_events.specs.declared.Entry.{Entry}
use Rattle.air_events.specs.declared.Several.{Several}
use Rattle.command_grammar.specs.declared.commands.Command.{Command}
use Rattle.command_grammar.specs.declared.refusal.CommandRefusal.{CommandRefusal}
use Rattle.pie_line.specs.Link.{LinkValue}
use Rattle.tag_machine.specs.TagsInExchange.{AreLegalTags}
use Rattle.tag_machine.specs.TagValue.{TagValue}
use Rattle.air_model.specs.Channel.{heard_levels}
use Rattle.air_model.specs.Past.{Start, Record, Item, exchanged, exchanges_in, tags_behind}
use Rattle.report_lines.specs.ReportLine.{ReportLine, report_line_text}
use Rattle.runs.specs.Listing.{Listed, listed_by}
use Rattle.runs.specs.Report.{list_line}
use Rattle.air_audit.specs.LineRefusals.{IsRefusedHere}
use Rattle.air_audit.specs.TraceOrder.{TraceStanding, begun, between, sending, listing, telling, ended, TraceGoesOn, place_in, record_of, told_line}
use Rattle.report_lines.specs.ReadLines.{text_of}
use Rattle.air_audit.specs.TraceLines.{Sends}
use Rattle.air_audit.specs.declared.auditor.Position.{Position}
use Rattle.air_audit.specs.declared.auditor.Position.TheVariants as positions
use Rattle.air_audit.specs.declared.stop.Stop.{Stop}
use Rattle.air_audit.specs.declared.stop.Stop.TheVariants as stops
use Rattle.air_audit.specs.declared.verdict.AuditReason.TheVariants as reasons

-- where a raw stream is chosen, it has a level at least, and no more than the longest reply
abbrev pub GivesStream : Option Choice → Type 0
GivesStream (Some (choices.Raw levels)) = HasStreamLength levels
GivesStream choice = Unit {0}

-- so many tags, and what is said of exchanges, are as one scenario gives them
pub record AreAsGiven (tags : ℕ) (entries : List (ℕ × Entry)) : Type 0 where
  pub few : tags ≤ most_tags
  pub rises : Rises 0 entries
  pub events : (exchange : ℕ) → All (λ event. event.1 < tags) (entry_at entries exchange).events
  pub missed : (exchange : ℕ) → All (λ tag. tag < tags) (entry_at entries exchange).missed
  pub streams : (exchange : ℕ) → GivesStream (entry_at entries exchange).choice

-- what was answered to the last command: over which link, how many tags did, and the levels that the channel gives of it
pub record AuditedAnswers : Type 0 where
  pub link : LinkValue
  pub count : ℕ
  pub levels : List Bool

-- What a contract sees of an audit: what the channel gives of several replies, the tags as they are, what is said of later
-- exchanges, where the trace stands, how many exchanges there were, the round and the slot of the last one, its command, what was
-- answered, and the line that was written last.
pub record AuditorValue : Type 0 where
  pub several : Several
  pub tags : List TagValue
  pub entries : List (ℕ × Entry)
  pub position : Position
  pub exchanges : ℕ
  pub round : ℕ
  pub slot : ℕ
  pub sent : Result Command CommandRefusal
  pub answers : AuditedAnswers
  pub text : List ℕ

-- no line was read yet
pub record AuditorIsBegun (link : LinkValue) (several : Several) (tags : List TagValue) (entries : List (ℕ × Entry)) (auditor : AuditorValue) : Type 0 where
  pub link_is : auditor.answers.link ≡ link
  pub several_is : auditor.several ≡ several
  pub tags_are : auditor.tags ≡ tags
  pub entries_are : auditor.entries ≡ entries
  pub position_is : auditor.position ≡ positions.First
  pub exchanges_are : auditor.exchanges ≡ 0
  pub round_is : auditor.round ≡ 0
  pub slot_is : auditor.slot ≡ 0

-- there were at most so many exchanges
pub record IsEarly (most : ℕ) (auditor : AuditorValue) : Type 0 where
  pub exchanges : auditor.exchanges ≤ most
  pub round : auditor.round ≤ most
  pub slot : auditor.slot ≤ most

-- the auditor is what a past made of it
pub record KeepsUp (start : Start) (past : List Item) (auditor : AuditorValue) : Type 0 where
  pub given : AreAsGiven (length start.tags) start.entries
  pub link : auditor.answers.link ≡ start.link
  pub several : auditor.several ≡ start.several
  pub tags : auditor.tags ≡ tags_behind start past
  pub legal : AreLegalTags auditor.tags
  pub entries : AreEntriesLeft auditor.entries start.entries (exchanges_in past)
  pub exchanges : auditor.exchanges ≡ exchanges_in past
  pub round : auditor.round ≡ (place_in past).round
  pub slot : auditor.slot ≡ (place_in past).slot

-- the auditor keeps up with the trace, and knows what came back in the exchange that is last
pub record IsHearing (start : Start) (past : List Item) (sent : Record) (auditor : AuditorValue) : Type 0 where
  pub position_is : auditor.position ≡ positions.Sending
  pub keeps : KeepsUp start (exchanged sent ∷ past) auditor
  pub made : sent ≡ record_of start past sent.command
  pub command : auditor.sent ≡ Ok sent.command
  pub legal : AreLegalTags (tags_behind start past)
  pub count : auditor.answers.count ≡ length sent.replies
  pub levels : auditor.answers.levels ≡ heard_levels start.link sent.given

-- the auditor keeps up with the trace, and has written the list line that has to come next in it
pub record ExpectsList (start : Start) (past : List Item) (listed : Listed) (auditor : AuditorValue) : Type 0 where
  pub position_is : auditor.position ≡ positions.Listing
  pub keeps : KeepsUp start past auditor
  pub text : auditor.text ≡ report_line_text (list_line listed)

-- the auditor keeps up with the trace, and stands at this position in it
pub record AuditorIsAt (position : Position) (start : Start) (past : List Item) (auditor : AuditorValue) : Type 0 where
  pub position_is : auditor.position ≡ position
  pub keeps : KeepsUp start past auditor

-- the auditor stands where the trace does
abbrev pub AuditorStandsAt : Start → TraceStanding → AuditorValue → Type 0
AuditorStandsAt start begun auditor = AuditorIsAt positions.First start [] auditor
AuditorStandsAt start (between past) auditor = AuditorIsAt positions.Between start past auditor
AuditorStandsAt start (sending past sent) auditor = IsHearing start past sent auditor
AuditorStandsAt start (listing past listed) auditor = ExpectsList start past listed auditor
AuditorStandsAt start (telling past told) auditor = AuditorIsAt (positions.Telling told) start past auditor
AuditorStandsAt start (ended past) auditor = AuditorIsAt positions.Ended start past auditor

-- there is a trace that the auditor stands for
pub record AuditIsUnderway (auditor : AuditorValue) : Type 0 where
  pub start : Start
  pub standing : TraceStanding
  pub stands : AuditorStandsAt start standing auditor

-- the trace goes on with the line, and the auditor with it
pub record GoesOnWith (start : Start) (standing : TraceStanding) (line : List ℕ) (auditor : AuditorValue) : Type 0 where
  pub next : TraceStanding
  pub goes : TraceGoesOn start standing line next
  pub stands : AuditorStandsAt start next auditor

-- the line is refused, or there was no memory
abbrev pub AuditStopsAt : Stop → Start → TraceStanding → List ℕ → Type 0
AuditStopsAt (stops.Refused reason) start standing line = IsRefusedHere start standing line reason
AuditStopsAt (stops.OutOfMemory error) start standing line = Unit {0}

-- the answer to a line
abbrev pub GoesOnOrStops : Result (Unit {0}) Stop → Start → TraceStanding → List ℕ → AuditorValue → Type 0
GoesOnOrStops (Ok done) start standing line auditor = GoesOnWith start standing line auditor
GoesOnOrStops (Err stop) start standing line auditor = AuditStopsAt stop start standing line

-- the line sends a command, which the tags have heard
pub record SendsTo (start : Start) (past : List Item) (line : List ℕ) (auditor : AuditorValue) : Type 0 where
  pub command : Command
  pub sends : Sends (exchanges_in past + 1) line command
  pub hearing : IsHearing start past (record_of start past command) auditor

-- the PC and the EPC are those that a record lists
abbrev pub Lists : Option (ℕ × List ℕ) → Record → Type 0
Lists None sent = listed_by sent ≡ []
Lists (Some pair) sent = listed_by sent ≡ record { round = sent.round; slot = sent.slot; pc = pair.0; epc = pair.1 } ∷ []

-- where an auditor stands behind the line of the next tag, or the last line of a trace
abbrev pub position_behind : ℕ → Option TagValue → Position
position_behind told None = positions.Ended
position_behind told (Some tag) = positions.Telling (told + 1)

-- that line is written
pub record WritesTold (told : ℕ) (next : Option TagValue) (behind : Position) (text : List ℕ) : Type 0 where
  pub text_is : text ≡ report_line_text (told_line told next)
  pub behind_is : behind ≡ position_behind told next

-- the line is this one, and the trace goes on behind it
pub record TellsLine (told : ℕ) (next : Option TagValue) (line : List ℕ) (before after : AuditorValue) : Type 0 where
  pub text_is : line ≡ text_of (told_line told next)
  pub moves : after ≡ record before { position = position_behind told next; text = after.text }

-- the line is another, or there was no memory
abbrev pub TellsOther : ReportLine → List ℕ → Stop → Type 0
TellsOther expected line (stops.Refused reason) = (reason ≡ reasons.Tag) × (line ≢ text_of expected)
TellsOther expected line (stops.OutOfMemory error) = Unit {0}
