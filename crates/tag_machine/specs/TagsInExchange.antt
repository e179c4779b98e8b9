-- What one tag and a population of tags become in one exchange: first the events that a scenario names for a tag, then the
-- command, unless the tag misses it. What becomes of one tag depends on no other tag.
use Rattle.std.specs.Prelude.{◌≡◌, ℕ, ◌+◌, ◌==◌, ◌||◌, Bool, List, [], ◌∷◌, ◌++◌, map, Option, Some, None, if◌then◌else◌}
use Rattle.std.specs.List.{AllByRecursion, list_any}
use Rattle.std.specs.Option.{is_some}
use Rattle.air_events.specs.declared.Entry.{Entry}
use Rattle.air_events.specs.declared.Event.{Event}
use Rattle.command_grammar.specs.declared.commands.Command.{Command}
use Rattle.command_grammar.specs.declared.commands.Command.TheVariants as commands
use Rattle.tag_machine.specs.TagValue.{TagValue, IsLegalTag}
use Rattle.tag_machine.specs.Answers.{Outcome, Sent, silent}
use Rattle.tag_machine.specs.Events.{tag_after_event}
use Rattle.tag_machine.specs.Slots.{is_beyond_arbitrate}
use Rattle.tag_machine.specs.Step.{step}

-- an event that befalls the tag of one number, seen by the tag of another
abbrev pub tag_after_own_event : ℕ → Event → ℕ → TagValue → TagValue
tag_after_own_event number event befallen tag = if befallen == number then tag_after_event event tag.state tag.body else tag

-- the tag of a number after the events, in order
abbrev pub tag_after_events : ℕ → List (Event × ℕ) → TagValue → TagValue
tag_after_events number [] tag = tag
tag_after_events number (event ∷ events) tag = tag_after_events number events (tag_after_own_event number event.0 event.1 tag)

-- the tag of this number misses the command
abbrev pub is_missed : ℕ → Entry → Bool
is_missed number entry = list_any (λ missed. missed == number) entry.missed

-- what comes of a command for a tag that misses it, or hears it
abbrev pub outcome_unless : Bool → Command → TagValue → Outcome
outcome_unless misses command tag = if misses then silent tag.state tag.body else step command tag.state tag.body

-- what comes of an exchange for the tag of a number
abbrev pub outcome_in : ℕ → Command → Entry → TagValue → Outcome
outcome_in number command entry tag = outcome_unless (is_missed number entry) command (tag_after_events number entry.events tag)

-- what comes of an exchange for each of the tags that are numbered from a number on
abbrev pub outcomes_from : ℕ → Command → Entry → List TagValue → List Outcome
outcomes_from number command entry [] = []
outcomes_from number command entry (tag ∷ tags) =
    outcome_in number command entry tag ∷ outcomes_from (number + 1) command entry tags

-- the tags after it
abbrev pub tags_after : List Outcome → List TagValue
tags_after outcomes = map (λ outcome. outcome.tag) outcomes

-- what a tag sent, with the number of the tag
pub record Replied : Type 0 where
  pub number : ℕ
  pub sent : Sent

-- what the tag of a number sent: one reply, or none
abbrev pub reply_of : ℕ → Option Sent → List Replied
reply_of number None = []
reply_of number (Some sent) = record { number = number; sent = sent } ∷ []

-- what tags that are numbered from a number on sent, in their order
abbrev pub replies_from : ℕ → List Outcome → List Replied
replies_from number [] = []
replies_from number (outcome ∷ outcomes) = reply_of number outcome.answer ++ replies_from (number + 1) outcomes

-- what comes of a command and an entry for each of the tags, numbered from 0
abbrev pub outcomes_in : Command → Entry → List TagValue → List Outcome
outcomes_in command entry tags = outcomes_from 0 command entry tags

-- what the tags sent, in the order of their numbers
abbrev pub replies_in : Command → Entry → List TagValue → List Replied
replies_in command entry tags = replies_from 0 (outcomes_in command entry tags)

-- the command is a QueryRep, of some session
abbrev pub IsQueryRep : Command → Type 0
IsQueryRep command = (session : ℕ) × (command ≡ commands.QueryRep session)

-- a tag that a command keeps busy: it misses the command, was beyond arbitrate before it, or answers it
abbrev pub is_busy : ℕ → Command → Entry → TagValue → Bool
is_busy number command entry tag = is_missed number entry || is_beyond_arbitrate tag.state || is_some (step command tag.state tag.body).answer

-- how many of the tags that are numbered from a number on it keeps busy
abbrev pub busy_from : ℕ → Command → Entry → List TagValue → ℕ
busy_from number command entry [] = 0
busy_from number command entry (tag ∷ tags) = (if is_busy number command entry tag then 1 else 0) + busy_from (number + 1) command entry tags

-- one event befalls a tag among tags that are numbered from a number on
abbrev pub tags_after_event : ℕ → Event → ℕ → List TagValue → List TagValue
tags_after_event number event befallen [] = []
tags_after_event number event befallen (tag ∷ tags) =
    tag_after_own_event number event befallen tag ∷ tags_after_event (number + 1) event befallen tags

-- each tag is legal
abbrev pub AreLegalTags : List TagValue → Type 0
AreLegalTags tags = AllByRecursion IsLegalTag tags
