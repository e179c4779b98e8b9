-- Logs whose numbers are in their ranges, and the log that a tag makes of what is done to it.
use Rattle.std.specs.Prelude.{ℕ, ◌<◌, ◌^◌, List, [], ◌∷◌, Option, Some, None}
use Rattle.std.specs.List.{AllByRecursion}
use Rattle.air_events.specs.declared.Event.{Event}
use Rattle.command_grammar.specs.declared.commands.Command.{Command}
use Rattle.command_grammar.specs.Commands.{IsLegalCommand}
use Rattle.tag_machine.specs.Events.{tag_after_event}
use Rattle.reply_grammar.specs.declared.expected.Reply.{Reply}
use Rattle.reply_grammar.specs.declared.expected.Reply.TheVariants.{Rn16, Epc, Handle, Words, Header, Error}
use Rattle.tag_machine.specs.TagValue.{TagValue}
use Rattle.log_judge.specs.Log.{LogEntry, Seen, Exchange, Befalls}
use Rattle.log_judge.specs.Explaining.{seen_answer_to, outcome_of_heard}

-- what is heard is a command with its numbers in their ranges, or none
abbrev pub IsLegalHeard : Option Command → Type 0
IsLegalHeard None = Unit {0}
IsLegalHeard (Some command) = IsLegalCommand command

-- the number of an RN16 or of a handle
abbrev pub number_of_reply : Reply → ℕ
number_of_reply (Rn16 number) = number
number_of_reply (Epc pc epc) = 0
number_of_reply (Handle number) = number
number_of_reply (Words words) = 0
number_of_reply Header = 0
number_of_reply (Error code) = 0

-- the number of an RN16 or of a handle that was seen, 0 where nothing was
abbrev pub number_seen : Option Seen → ℕ
number_seen None = 0
number_seen (Some seen) = number_of_reply seen.reply

-- what is heard and what is seen is so
pub record IsLegalExchange (heard : Option Command) (seen : Option Seen) : Type 0 where
  pub heard_is : IsLegalHeard heard
  pub seen_is : number_seen seen < 2 ^ 16

-- the numbers of an entry are in their ranges
abbrev pub IsLegalEntry : LogEntry → Type 0
IsLegalEntry (Exchange heard seen) = IsLegalExchange heard seen
IsLegalEntry (Befalls event) = Unit {0}

-- the numbers of each entry of a log are in their ranges
abbrev pub IsLegalLog : List LogEntry → Type 0
IsLegalLog log = AllByRecursion IsLegalEntry log

-- what is done to a tag
pub data Deed : Type 0 where
  Sends : (heard : Option Command) → Deed
  Brings : (event : Event) → Deed

-- the log that a tag makes, which answers what the tables say
abbrev pub log_made : List Deed → TagValue → List LogEntry
log_made [] tag = []
log_made (Sends heard ∷ deeds) tag = Exchange heard (seen_answer_to heard tag) ∷ log_made deeds (outcome_of_heard heard tag).tag
log_made (Brings event ∷ deeds) tag = Befalls event ∷ log_made deeds (tag_after_event event tag.state tag.body)
