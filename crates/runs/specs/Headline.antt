-- Profile: what the history and the report of a run say, in terms of the records of the history, the lines of the report, and
-- what became of each tag.
use Rattle.std.specs.Prelude.{◌≡◌, ℕ, ◌+◌, ◌*◌, ◌≤◌, ◌==◌, ◌&&◌, Bool, true, false, List, [], ◌∷◌, ◌++◌, length, filter, Contains, Option, Some, slice_get, if◌then◌else◌}
use Rattle.std.specs.List.{AllByRecursion}
use Rattle.access_ops.specs.declared.OpList.{OpList}
use Rattle.air_events.specs.declared.Entry.{Entry}
use Rattle.air_model.specs.Channel.{Given, whole, heard_levels, GoesByReplies}
use Rattle.tag_machine.specs.TagsInExchange.{Replied, tag_after_events}
use Rattle.air_model.specs.Past.{Start, Record, Item, befell, exchanged, operated, ended, tag_behind}
use Rattle.command_grammar.specs.declared.commands.Command.{Command}
use Rattle.command_grammar.specs.declared.commands.Command.TheVariants as commands
use Rattle.reply_wire.specs.Codes.{table_of}
use Rattle.q_round.specs.SpecValue.{SpecValue, IsLegalSpec}
use Rattle.q_round.specs.declared.round.RoundEnd.{RoundEnd}
use Rattle.reply_grammar.specs.declared.expected.Expect.TheVariants as expects
use Rattle.reply_grammar.specs.declared.expected.Reply.TheVariants.{Epc}
use Rattle.reply_wire.specs.Received.{IsWhole}
use Rattle.report_lines.specs.ReportLine.{ReportLine, ListLine, OpLine, RoundLine, TagLine}
use Rattle.scenario.specs.Limits.{most_ops}
use Rattle.scenario.specs.declared.values.Step.{Step}
use Rattle.scenario.specs.declared.values.Step.TheVariants as steps
use Rattle.tag_machine.specs.Answers.{Sent}
use Rattle.tag_machine.specs.Step.{step}
use Rattle.tag_machine.specs.TagValue.{TagValue, is_present}

-- 6.3.2.11.1.1 Select: the command is a Select
abbrev pub IsSelect : Command → Type 0
IsSelect (commands.Select target action bank pointer mask) = Unit {0}
IsSelect command = ⊥

-- the numbers of a round are in their ranges, and it has no more operations than that
pub record IsLegalRound (spec : SpecValue) (operations : OpList) : Type 0 where
  pub legal : IsLegalSpec spec
  pub few : length operations.ops ≤ most_ops

-- what is used of the limits of a scenario: a Select step sends a Select, and the rounds are legal
abbrev pub IsLegalStep : Step → Type 0
IsLegalStep (steps.Select command) = IsSelect command
IsLegalStep steps.Nak = Unit {0}
IsLegalStep (steps.Event event number) = Unit {0}
IsLegalStep (steps.Round spec operations) = IsLegalRound spec operations

-- what is used of the limits of a scenario by all its steps: each Select step sends a Select, and the rounds are legal
abbrev pub AreLegalSteps : List Step → Type 0
AreLegalSteps steps = AllByRecursion IsLegalStep steps

-- the exchange was made in this history, when this was past
pub record IsRecordOf (history : List Item) (sent : Record) (earlier : List Item) : Type 0 where
  pub later : List Item
  pub is : history ≡ later ++ exchanged sent ∷ earlier

-- the record's command is an ACK that carries this RN16
abbrev pub Acknowledges : Record → ℕ → Type 0
Acknowledges sent rn = sent.command ≡ commands.Ack rn

-- the tag of a number in an exchange: as it stands behind what was past, after the events that are named for the exchange
abbrev pub tag_in_exchange : Record → List Item → ℕ → TagValue → TagValue
tag_in_exchange sent earlier number tag = tag_after_events number sent.entry.events (tag_behind number tag earlier)

-- what a tag answers a command with, or nothing
abbrev pub answer_to : Command → TagValue → Option Sent
answer_to command tag = (step command tag.state tag.body).answer

-- The tag with the number in a reply is one of the start. In the exchange it was present, heard the command, and answered it with
-- this reply, which is one of those of the record.
pub record IsFromTag (start : Start) (sent : Record) (earlier : List Item) (replied : Replied) : Type 0 where
  pub tag : TagValue
  pub numbered : slice_get start.tags replied.number ≡ Some tag
  pub present : is_present (tag_in_exchange sent earlier replied.number tag).state ≡ true
  pub heard : Contains sent.hearers replied.number
  pub answered : answer_to sent.command (tag_in_exchange sent earlier replied.number tag) ≡ Some replied.sent
  pub recorded : Contains sent.replies replied

-- the channel gave a tag's PC and EPC whole
pub record IsGivenWhole (given : Given) (pc : ℕ) (epc : List ℕ) (replied : Replied) : Type 0 where
  pub unbroken : given ≡ whole replied
  pub reply : replied.sent.reply ≡ Epc pc epc

-- the exchange is the one of this round and slot that sent an ACK
pub record IsAckOf (history : List Item) (round slot : ℕ) (sent : Record) (earlier : List Item) : Type 0 where
  pub recorded : IsRecordOf history sent earlier
  pub round_is : sent.round ≡ round
  pub slot_is : sent.slot ≡ slot
  pub rn : ℕ
  pub acknowledges : Acknowledges sent rn
  pub only : (other : Record) (other_earlier : List Item) (other_rn : ℕ) → IsRecordOf history other other_earlier
      → Acknowledges other other_rn → other.round ≡ round → other.slot ≡ slot → other ≡ sent

-- One exchange of this round and slot sent an ACK. The channel gave a reply to it whole, and the reply is that of a tag that
-- was present, heard the ACK, and sent this PC and EPC.
pub record IsSentByATag (start : Start) (history : List Item) (round slot pc : ℕ) (epc : List ℕ) : Type 0 where
  pub sent : Record
  pub earlier : List Item
  pub ack : IsAckOf history round slot sent earlier
  pub replied : Replied
  pub given : IsGivenWhole sent.given pc epc replied
  pub from_tag : IsFromTag start sent earlier replied

-- One exchange of this round and slot sent an ACK, and the levels that were heard in it are the stream of bits that are this PC
-- and EPC, whoever sent them.
pub record IsHeardAsListed (start : Start) (history : List Item) (round slot pc : ℕ) (epc : List ℕ) : Type 0 where
  pub sent : Record
  pub earlier : List Item
  pub ack : IsAckOf history round slot sent earlier
  pub heard : IsWhole (table_of start.link.code) start.link.trext expects.Epc (heard_levels start.link sent.given) (Epc pc epc)

-- no entry gives raw levels: what comes back comes of the replies of tags
abbrev pub HasNoRawStream : List (ℕ × Entry) → Type 0
HasNoRawStream entries = AllByRecursion (λ entry. GoesByReplies entry.1.choice) entries

-- a line for what was listed in this round and slot
abbrev pub is_list_line : ℕ → ℕ → ReportLine → Bool
is_list_line round slot (ListLine in_round in_slot pc epc) = in_round == round && in_slot == slot
is_list_line round slot line = false

-- a line for the end of this round
abbrev pub is_round_line : ℕ → ReportLine → Bool
is_round_line round (RoundLine number end slots) = number == round
is_round_line round line = false

-- whether a line of a report is that of a tag
abbrev pub is_tag_line : ReportLine → Bool
is_tag_line (TagLine number tag) = true
is_tag_line line = false

-- a line for the result of an operation
abbrev pub is_op_line : ReportLine → Bool
is_op_line (OpLine round slot index result) = true
is_op_line line = false

-- a line for each result in a past, in the order in which they came
abbrev pub op_lines : List Item → List ReportLine
op_lines [] = []
op_lines (befell event number ∷ past) = op_lines past
op_lines (exchanged sent ∷ past) = op_lines past
op_lines (operated round slot index result ∷ past) = op_lines past ++ OpLine round slot index result ∷ []
op_lines (ended number end slots ∷ past) = op_lines past

-- a line for each tag, numbered from a number on, as it stands behind a past
abbrev pub tag_lines_behind : ℕ → List TagValue → List Item → List ReportLine
tag_lines_behind number [] past = []
tag_lines_behind number (tag ∷ tags) past = TagLine number (tag_behind number tag past) ∷ tag_lines_behind (number + 1) tags past

-- 6.3.2.11.2 Inventory commands: the command begins a slot
abbrev pub begins_slot : Command → Bool
begins_slot (commands.Query dr code trext sel session target q) = true
begins_slot (commands.QueryAdjust session updn) = true
begins_slot (commands.QueryRep session) = true
begins_slot command = false

-- the record is one of the round, and its command begins a slot
abbrev pub begins_slot_of : ℕ → Record → Bool
begins_slot_of round sent = begins_slot sent.command && sent.round == round

-- the records of a round whose commands begin slots, the latest first
abbrev pub slot_records : ℕ → List Item → List Record
slot_records round [] = []
slot_records round (befell event number ∷ past) = slot_records round past
slot_records round (exchanged sent ∷ past) =
    (if begins_slot_of round sent then sent ∷ slot_records round past else slot_records round past)
slot_records round (operated number slot index result ∷ past) = slot_records round past
slot_records round (ended number end slots ∷ past) = slot_records round past

-- how many of the steps are rounds
abbrev pub rounds_of : List Step → ℕ
rounds_of [] = 0
rounds_of (steps.Round spec operations ∷ steps) = rounds_of steps + 1
rounds_of (step ∷ steps) = rounds_of steps

-- A round has at most so many slot commands, and the report has one line for it, which gives their number.
pub record KeepsLimit (history : List Item) (lines : List ReportLine) (round limit : ℕ) : Type 0 where
  pub end : RoundEnd
  pub within : length (slot_records round history) ≤ limit
  pub line : filter (is_round_line round) lines ≡ RoundLine round end (length (slot_records round history)) ∷ []

-- The headline: what the history and the lines of the report of every run say.
pub record Headline (start : Start) (taken : List Step) (history : List Item) (lines : List ReportLine) : Type 0 where
  -- each EPC listed is one that a present tag sent in that round and slot, unless raw levels come back in some exchange
  pub sent_by_a_tag : HasNoRawStream start.entries → (round slot pc : ℕ) (epc : List ℕ) → Contains lines (ListLine round slot pc epc)
      → IsSentByATag start history round slot pc epc
  -- each EPC that the channel gave whole in reply to an ACK is listed once: its round and slot have this one line
  pub listed_once : (sent : Record) (earlier : List Item) (rn pc : ℕ) (epc : List ℕ) (replied : Replied) → IsRecordOf history sent earlier
      → Acknowledges sent rn → IsGivenWhole sent.given pc epc replied
      → filter (is_list_line sent.round sent.slot) lines ≡ ListLine sent.round sent.slot pc epc ∷ []
  -- the tag lines are those of the tags of the start, each as the commands that it heard and the events that name it leave it
  pub tags_as_heard : filter is_tag_line lines ≡ tag_lines_behind 0 start.tags history
  -- no round, numbered from 1 over the steps, has more slot commands than its limit, and its line gives their number
  pub slot_limit : (before after : List Step) (spec : SpecValue) (operations : OpList) → taken ≡ before ++ steps.Round spec operations ∷ after
      → KeepsLimit history lines (rounds_of before + 1) spec.limit

-- What is listed is what was heard, also where raw levels come back that no tag sent.
pub record AreHeardAsListed (start : Start) (history : List Item) (lines : List ReportLine) : Type 0 where
  -- each EPC listed is what was heard in that round and slot
  pub listed_is_heard : (round slot pc : ℕ) (epc : List ℕ) → Contains lines (ListLine round slot pc epc) → IsHeardAsListed start history round slot pc epc
  -- each EPC that was heard whole in reply to an ACK is listed once: its round and slot have this one line
  pub heard_is_listed : (sent : Record) (earlier : List Item) (rn pc : ℕ) (epc : List ℕ) → IsRecordOf history sent earlier → Acknowledges sent rn
      → IsWhole (table_of start.link.code) start.link.trext expects.Epc (heard_levels start.link sent.given) (Epc pc epc)
      → filter (is_list_line sent.round sent.slot) lines ≡ ListLine sent.round sent.slot pc epc ∷ []

-- how many exchanges the operations of a round have at most with one tag: one for the handle and four for each
abbrev pub most_operating : OpList → ℕ
most_operating operations = 4 * length operations.ops + 1

-- how many exchanges steps have at most: one for a Select or NAK, and for each slot that a round may have the slot command, the
-- ACK and the operations
abbrev pub most_exchanges : List Step → ℕ
most_exchanges [] = 0
most_exchanges (steps.Select command ∷ steps) = most_exchanges steps + 1
most_exchanges (steps.Nak ∷ steps) = most_exchanges steps + 1
most_exchanges (steps.Event event number ∷ steps) = most_exchanges steps
most_exchanges (steps.Round spec operations ∷ steps) = most_exchanges steps + (2 + most_operating operations) * spec.limit
