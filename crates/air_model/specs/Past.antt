-- Profile: what has happened so far in a run: events between exchanges, exchanges, results of operations, and ends of rounds.
-- A past is a list of these, the latest first. It begins with a start, and each record of an exchange is computed from the start and the past
-- behind it alone.
use Rattle.std.specs.Prelude.{ℕ, ◌+◌, Bool, false, List, [], ◌∷◌, if◌then◌else◌}
use Rattle.access_ops.specs.declared.op_next.OpResult.{OpResult}
use Rattle.air_events.specs.declared.Entry.{Entry}
use Rattle.air_events.specs.declared.Event.{Event}
use Rattle.air_events.specs.declared.Several.{Several}
use Rattle.air_events.specs.Entries.{entry_at}
use Rattle.command_grammar.specs.declared.commands.Command.{Command}
use Rattle.pie_line.specs.Link.{LinkValue}
use Rattle.q_round.specs.declared.round.RoundEnd.{RoundEnd}
use Rattle.tag_machine.specs.TagValue.{TagValue, is_present}
use Rattle.tag_machine.specs.TagsInExchange.{Replied, tag_after_own_event, tag_after_events, is_missed, outcome_in, replies_in}
use Rattle.air_model.specs.Channel.{Given, given_in}

-- what a run begins with: the link, the tags, numbered from 0, what is said of exchanges, each with its number, counted
-- from 1 over the whole run, and what the channel gives of several replies
pub record Start : Type 0 where
  pub link : LinkValue
  pub tags : List TagValue
  pub entries : List (ℕ × Entry)
  pub several : Several

-- One exchange: its number, the round and the slot that it belongs to (0 outside rounds), the command, what is said of it,
-- the tags that heard the command, what tags replied, in the order of the tags, and what the channel gave.
pub record Record : Type 0 where
  pub exchange : ℕ
  pub round : ℕ
  pub slot : ℕ
  pub command : Command
  pub entry : Entry
  pub hearers : List ℕ
  pub replies : List Replied
  pub given : Given

pub data Item : Type 0 where
  -- an event befell the tag of a number, between exchanges
  befell : (event : Event) → (number : ℕ) → Item
  -- a command was sent
  exchanged : (sent : Record) → Item
  -- an operation had its result: in a round and a slot, the operation of this number, counted from 1 for each listed tag
  operated : (round slot index : ℕ) → (result : OpResult) → Item
  -- the round of this number ended so, and had so many slots
  ended : (round : ℕ) → (end : RoundEnd) → (slots : ℕ) → Item

-- *Tag after*: what became of the tag of a number, from what it was at the start. It goes by the events that name the tag and
-- the commands that the tag didn't miss, and by no other tag.
abbrev pub tag_behind : ℕ → TagValue → List Item → TagValue
tag_behind number start [] = start
tag_behind number start (befell event befallen ∷ past) = tag_after_own_event number event befallen (tag_behind number start past)
tag_behind number start (exchanged sent ∷ past) = (outcome_in number sent.command sent.entry (tag_behind number start past)).tag
tag_behind number start (operated round slot index result ∷ past) = tag_behind number start past
tag_behind number start (ended round end slots ∷ past) = tag_behind number start past

-- the tags, numbered from a number on
abbrev pub tags_behind_from : ℕ → List TagValue → List Item → List TagValue
tags_behind_from number [] past = []
tags_behind_from number (start ∷ starts) past = tag_behind number start past ∷ tags_behind_from (number + 1) starts past

abbrev pub tags_behind : Start → List Item → List TagValue
tags_behind start past = tags_behind_from 0 start.tags past

-- how many exchanges there were
abbrev pub exchanges_in : List Item → ℕ
exchanges_in [] = 0
exchanges_in (befell event number ∷ past) = exchanges_in past
exchanges_in (exchanged sent ∷ past) = exchanges_in past + 1
exchanges_in (operated round slot index result ∷ past) = exchanges_in past
exchanges_in (ended round end slots ∷ past) = exchanges_in past

-- how many rounds ended
abbrev pub rounds_in : List Item → ℕ
rounds_in [] = 0
rounds_in (befell event number ∷ past) = rounds_in past
rounds_in (exchanged sent ∷ past) = rounds_in past
rounds_in (operated round slot index result ∷ past) = rounds_in past
rounds_in (ended round end slots ∷ past) = rounds_in past + 1

-- a tag hears the command where it is present after the events and doesn't miss it
abbrev pub is_hearer : ℕ → Entry → TagValue → Bool
is_hearer number entry tag = if is_missed number entry then false else is_present (tag_after_events number entry.events tag).state

abbrev pub hearers_of : ℕ → Entry → List TagValue → List ℕ
hearers_of number entry [] = []
hearers_of number entry (tag ∷ tags) =
    (if is_hearer number entry tag then number ∷ hearers_of (number + 1) entry tags else hearers_of (number + 1) entry tags)

-- what is said of the next exchange
abbrev pub next_entry : Start → List Item → Entry
next_entry start past = entry_at start.entries (exchanges_in past + 1)

-- the record of a command that is sent next, in a round and a slot
abbrev pub next_record : Start → ℕ → ℕ → Command → List Item → Record
next_record start round slot command past =
    let tags = tags_behind start past in
    let entry = next_entry start past in
    record {
      exchange = exchanges_in past + 1;
      round = round;
      slot = slot;
      command = command;
      entry = entry;
      hearers = hearers_of 0 entry tags;
      replies = replies_in command entry tags;
      given = given_in start.link start.several command entry tags;
    }

-- the past behind a command
abbrev pub past_behind_command : Start → ℕ → ℕ → Command → List Item → List Item
past_behind_command start round slot command past = exchanged (next_record start round slot command past) ∷ past
