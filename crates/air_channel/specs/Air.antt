-- Profile: what a contract sees of the air between one interrogator and a population of tags, and what an exchange makes of it.
use Rattle.std.specs.Prelude.{ℕ, ◌+◌, ◌<◌, Bool, List, min, All}
use Rattle.air_events.specs.declared.Entry.{Entry}
use Rattle.air_events.specs.declared.Event.{Event}
use Rattle.air_events.specs.declared.Several.{Several}
use Rattle.command_grammar.specs.declared.commands.Command.{Command}
use Rattle.pie_line.specs.Link.{LinkValue}
use Rattle.tag_machine.specs.TagValue.{TagValue}
use Rattle.tag_machine.specs.TagsInExchange.{outcomes_in, replies_in, tags_after, tags_after_event}
use Rattle.tag_population.specs.Answers.{AnswerValue, answers_of}
use Rattle.air_model.specs.Channel.{given_in, heard_levels, wave_for}

-- the link, what the channel gives of several replies, the tags in the order of their numbers, the frame that was sent last,
-- the stream that came back, what tags answered, in the order of their numbers, and how many exchanges there were
pub record AirValue : Type 0 where
  pub link : LinkValue
  pub several : Several
  pub tags : List TagValue
  pub frame : List ℕ
  pub stream : List Bool
  pub answers : List AnswerValue
  pub exchanges : ℕ

-- the last value of the number of exchanges, at which it stays
abbrev pub last_exchange : ℕ
last_exchange = 18446744073709551615

abbrev pub next_exchange : ℕ → ℕ
next_exchange exchanges = min (exchanges + 1) last_exchange

-- the air after an exchange
abbrev pub air_after : AirValue → Command → Entry → AirValue
air_after air command entry = record {
  link = air.link;
  several = air.several;
  tags = tags_after (outcomes_in command entry air.tags);
  frame = wave_for air.link command;
  stream = heard_levels air.link (given_in air.link air.several command entry air.tags);
  answers = answers_of (replies_in command entry air.tags);
  exchanges = next_exchange air.exchanges;
}

-- the air after an event befell the tag of a number, outside every exchange
abbrev pub air_after_event : AirValue → Event → ℕ → AirValue
air_after_event air event number = record air { tags = tags_after_event 0 event number air.tags }

-- each tag that an entry names is there
pub record NamesTags (count : ℕ) (entry : Entry) : Type 0 where
  pub events : All (λ event. event.1 < count) entry.events
  pub missed : All (λ tag. tag < count) entry.missed
