-- Tags in their seats, and how each takes part: a tag that waits for its slot has the slot counter that is told of it, in place of
-- the one in its seat.
use Rattle.std.proofs.Common.{◌≡◌, ℕ, ◌<◌, ◌≤◌, Bool, true, false, List, [], ◌∷◌, length, map, Option, Some, None}
use Rattle.std.specs.Prelude.{slice_set}
use Rattle.air_events.specs.TagNumbers.{most_tags}
use Rattle.std.specs.Option.{is_some}
use Rattle.command_grammar.specs.declared.commands.Command.{Command}
use Rattle.lock_rules.specs.Lock.{locks_of}
use Rattle.tag_machine.specs.declared.any_tag.AnyTag.{AnyTag}
use Rattle.tag_machine.specs.Events.{new_tag}
use Rattle.tag_machine.specs.TagsInExchange.{AreLegalTags}
use Rattle.tag_machine.specs.Hearing.{tag_value_of}
use Rattle.tag_machine.specs.Step.{step}
use Rattle.tag_machine.specs.TagValue.{StateValue, ReadyState, ArbitrateState, ReplyState, AcknowledgedState, OpenState, SecuredState, KilledState, UnpoweredState, TagValue}
use Rattle.tag_population.specs.declared.floor.Reach.{Reach}
use Rattle.tag_population.specs.declared.floor.Reach.TheVariants.{Every, InRound, CalledOnly}
use Rattle.tag_population.specs.Participation.{participation_at, is_called, counted_down, AreSlots}
use Rattle.tag_population.specs.declared.participation.Participation.{Participation}
use Rattle.tag_population.specs.declared.participation.Participation.TheVariants.{Waits, Called}

-- what an empty seat is seen as; no seat is empty where a contract sees it
abbrev pub no_tag : TagValue
no_tag = new_tag (record { reserved = []; epc = []; tid = []; user = [] }) (locks_of 0) []

-- the tag in a seat
abbrev pub seated_tag : Option AnyTag → TagValue
seated_tag None = no_tag
seated_tag (Some tag) = tag_value_of tag

-- a state with another slot counter, where it has one
abbrev pub with_slot : ℕ → StateValue → StateValue
with_slot slot ReadyState = ReadyState
with_slot slot (ArbitrateState session q old) = ArbitrateState session q slot
with_slot slot (ReplyState session q rn) = ReplyState session q rn
with_slot slot (AcknowledgedState session q rn) = AcknowledgedState session q rn
with_slot slot (OpenState held) = OpenState held
with_slot slot (SecuredState held) = SecuredState held
with_slot slot KilledState = KilledState
with_slot slot UnpoweredState = UnpoweredState

-- a tag that takes part so, where this one sits in its seat
abbrev pub tag_seated : Option Participation → TagValue → TagValue
tag_seated None seat = seat
tag_seated (Some (Waits session slot)) seat = record seat { state = with_slot slot seat.state }
tag_seated (Some Called) seat = seat

-- the tags in their seats, each of which takes part so
abbrev pub seated_tags : List (Option Participation) → List TagValue → List TagValue
seated_tags [] seats = []
seated_tags (participation ∷ participations) [] = []
seated_tags (participation ∷ participations) (seat ∷ seats) = tag_seated participation seat ∷ seated_tags participations seats

-- how a tag takes part in its state: it waits in arbitrate, and is called beyond that
abbrev pub participation_in : StateValue → Option Participation
participation_in ReadyState = None
participation_in (ArbitrateState session q slot) = Some (Waits session slot)
participation_in (ReplyState session q rn) = Some Called
participation_in (AcknowledgedState session q rn) = Some Called
participation_in (OpenState held) = Some Called
participation_in (SecuredState held) = Some Called
participation_in KilledState = None
participation_in UnpoweredState = None

-- how each tag takes part in its state
abbrev pub participations_of : List TagValue → List (Option Participation)
participations_of tags = map (λ tag. participation_in tag.state) tags

-- tags, and how each of them takes part
pub record FloorValue : Type 0 where
  pub tags : List TagValue
  pub parts : List (Option Participation)

-- tags in seats, with slot counters of 15 bits
pub record AreSeated (parts : List (Option Participation)) (seats : List TagValue) : Type 0 where
  pub few : length seats ≤ most_tags
  pub whole : length parts ≡ length seats
  pub legal : AreLegalTags seats
  pub slots : AreSlots parts

-- the floor with another tag of a number, which takes part as its state says
abbrev pub floor_with : FloorValue → ℕ → TagValue → FloorValue
floor_with floor number tag = record { tags = slice_set floor.tags number tag; parts = slice_set floor.parts number (participation_in tag.state) }

-- the tag of a number was called
abbrev pub calling : FloorValue → ℕ → FloorValue
calling floor number = record { tags = floor.tags; parts = slice_set floor.parts number (Some Called) }

-- the slot counters of a session were counted down
abbrev pub counted_floor : ℕ → FloorValue → FloorValue
counted_floor session floor = record { tags = seated_tags (map (counted_down session) floor.parts) floor.tags; parts = map (counted_down session) floor.parts }

-- what comes of a command for a tag doesn't depend on its slot counter
abbrev pub HeedsNoSlot : Command → TagValue → Type 0
HeedsNoSlot command tag = (slot : ℕ) → step command (with_slot slot tag.state) tag.body ≡ step command tag.state tag.body

-- how many steps it takes to write the slot counter of a tag back
abbrev pub steps_back : Option Participation → ℕ
steps_back None = 0
steps_back (Some (Waits session slot)) = 1
steps_back (Some Called) = 0

-- a command that reaches these tags reaches one that takes part so
abbrev pub is_reached : Reach → Option Participation → Bool
is_reached Every part = true
is_reached InRound part = is_some part
is_reached CalledOnly part = is_called part

-- the first tag that it reaches, from a number on, or none where there is no such tag
abbrev pub IsNextReached : Reach → List (Option Participation) → ℕ → Option ℕ → Type 0
IsNextReached reach parts from None = (number : ℕ) → from ≤ number → number < length parts → is_reached reach (participation_at parts number) ≡ false
IsNextReached reach parts from (Some next) =
    (from ≤ next) × (next < length parts) × (is_reached reach (participation_at parts next) ≡ true)
    × ((number : ℕ) → from ≤ number → number < next → is_reached reach (participation_at parts number) ≡ false)
