-- What becomes of tags in an exchange, step by step: first each event befalls its tag, and then one tag after another hears
-- the command, or misses it.
use Rattle.std.specs.Prelude.{◌≡◌, ℕ, ◌+◌, ◌<◌, Bool, false, List, [], ◌∷◌, length, get_or, Option, if◌then◌else◌}
use Rattle.air_events.specs.declared.Entry.{Entry}
use Rattle.air_events.specs.declared.Event.{Event}
use Rattle.command_grammar.specs.declared.commands.Command.{Command}
use Rattle.command_grammar.specs.declared.commands.Command.TheVariants as commands
use Rattle.tag_machine.specs.TagValue.{TagValue}
use Rattle.tag_machine.specs.Answers.{Outcome, silent}
use Rattle.tag_machine.specs.TagsInExchange.{tags_after_event, outcome_unless, is_missed, tags_after, replies_from}
use Rattle.tag_population.specs.Answers.{AnswersValue, answers_of}
use Rattle.tag_population.specs.Floor.{FloorValue, is_reached, no_tag, participation_in, participations_of, steps_back}
use Rattle.tag_population.specs.declared.floor.Reach.{Reach}
use Rattle.tag_population.specs.declared.floor.Reach.TheVariants.{Every, InRound, CalledOnly}
use Rattle.tag_population.specs.Participation.{participation_at}
use Rattle.tag_population.specs.declared.participation.Participation.{Participation}

-- the tags that are numbered from a number on after these events, in order
abbrev pub tags_after_events : ℕ → List (Event × ℕ) → List TagValue → List TagValue
tags_after_events number [] tags = tags
tags_after_events number (event ∷ events) tags = tags_after_events number events (tags_after_event number event.0 event.1 tags)

-- what comes of the command alone for these tags
abbrev pub hearing_from : ℕ → Command → Entry → List TagValue → List Outcome
hearing_from number command entry [] = []
hearing_from number command entry (tag ∷ tags) = outcome_unless (is_missed number entry) command tag ∷ hearing_from (number + 1) command entry tags

-- which tags a command reaches, once a QueryRep has counted those that wait down
abbrev pub reach_of : Command → Reach
reach_of (commands.Query dr line_code trext sel session target q) = Every
reach_of (commands.Select target action bank pointer mask) = Every
reach_of (commands.QueryAdjust session updn) = InRound
reach_of other = CalledOnly

-- what comes of a command for a tag: one that it doesn't reach stays as it is
abbrev pub outcome_reached : Bool → Bool → Command → TagValue → Outcome
outcome_reached reached misses command tag = if reached then outcome_unless misses command tag else silent tag.state tag.body

-- what comes of a command for each of the tags that are numbered from a number on, and take part so
abbrev pub reached_from : ℕ → Command → Entry → List (Option Participation) → List TagValue → List Outcome
reached_from number command entry [] tags = []
reached_from number command entry (part ∷ parts) [] = []
reached_from number command entry (part ∷ parts) (tag ∷ tags) =
    outcome_reached (is_reached (reach_of command) part) (is_missed number entry) command tag ∷ reached_from (number + 1) command entry parts tags

-- how many steps it takes to write back the slot counter of a tag that is reached, and to have the tag hear a command
abbrev pub steps_to_hear : Reach → Option Participation → ℕ
steps_to_hear reach part = if is_reached reach part then 1 + steps_back part else 0

-- how many steps it takes to have all tags that are reached hear a command
abbrev pub reach_steps : Reach → List (Option Participation) → ℕ
reach_steps reach [] = 0
reach_steps reach (part ∷ parts) = steps_to_hear reach part + reach_steps reach parts

-- the tags that aren't reached take part as their states say
pub record IsReady (reach : Reach) (floor : FloorValue) : Type 0 where
  pub whole : length floor.parts ≡ length floor.tags
  pub settled :
      (number : ℕ) → number < length floor.tags → is_reached reach (participation_at floor.parts number) ≡ false
      → participation_at floor.parts number ≡ participation_in (get_or floor.tags number no_tag).state

-- tags were called for a command: what comes of it for those that it reaches then comes of it for all
pub record AreCalledFor (command : Command) (entry : Entry) (before after : FloorValue) : Type 0 where
  pub ready : IsReady (reach_of command) after
  pub count : length after.tags ≡ length before.tags
  pub outcomes : reached_from 0 command entry after.parts after.tags ≡ hearing_from 0 command entry before.tags

-- tags heard a command, of which this came: each takes part as its state says, and their answers are kept
pub record HasHeard (outcomes : List Outcome) (after : FloorValue) (old new : AnswersValue) : Type 0 where
  pub tags : after.tags ≡ tags_after outcomes
  pub settled : after.parts ≡ participations_of after.tags
  pub answers : new ≡ record { items = answers_of (replies_from 0 outcomes); tags = old.tags }
