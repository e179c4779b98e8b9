-- How tags take part in rounds, for each tag by its number: a tag waits for its slot, or it is called, so that it has to hear the
-- next command. Where each stands: a waiting tag at the place that its slot counter has behind the base of its session.
use Rattle.std.proofs.Common.{◌≡◌, ◌≢◌, ℕ, ◌+◌, ◌-◌, ◌*◌, ◌/◌, ◌%◌, ◌<◌, ◌≤◌, ◌==◌, Bool, true, false, List, [], ◌∷◌, length, Option, Some, None, get_or, if◌then◌else◌}
use Rattle.air_events.specs.TagNumbers.{most_tags}
use Rattle.tag_body.specs.RoundNumbers.{slot_below}
use Rattle.tag_population.specs.declared.participation.Participation.{Participation}
use Rattle.tag_population.specs.declared.participation.Participation.TheVariants.{Waits, Called}
use Rattle.tag_population.specs.Wheel.{wheel_place_of}
use Rattle.tag_population.specs.TagSets.{IsIn, bit_in_set}

-- how the tag of a number takes part; it doesn't where there is no such tag
abbrev pub participation_at : List (Option Participation) → ℕ → Option Participation
participation_at participations number = get_or participations number None

-- the slot counter of a tag that waits for its slot; none of a tag that is called or takes no part
abbrev pub waiting_slot : Option Participation → Option ℕ
waiting_slot None = None
waiting_slot (Some (Waits session slot)) = Some slot
waiting_slot (Some Called) = None

-- a tag waits in a round of a session
abbrev pub waits_in : ℕ → Option Participation → Bool
waits_in session None = false
waits_in session (Some (Waits own slot)) = own == session
waits_in session (Some Called) = false

-- a tag is called
abbrev pub is_called : Option Participation → Bool
is_called None = false
is_called (Some (Waits session slot)) = false
is_called (Some Called) = true

-- there are four sessions, and a slot counter has 15 bits
abbrev pub IsLegalParticipation : Option Participation → Type 0
IsLegalParticipation None = Unit {0}
IsLegalParticipation (Some (Waits session slot)) = (session ≤ 3) × (slot < 32768)
IsLegalParticipation (Some Called) = Unit {0}

-- each slot counter has 15 bits
abbrev pub AreSlots : List (Option Participation) → Type 0
AreSlots participations = (number slot : ℕ) → waiting_slot (participation_at participations number) ≡ Some slot → slot < 32768

-- the first tag with a number from one on that is called, or none where there is no such tag
abbrev pub IsNextCalled : List (Option Participation) → ℕ → Option ℕ → Type 0
IsNextCalled participations from None = (number : ℕ) → from ≤ number → participation_at participations number ≢ Some Called
IsNextCalled participations from (Some next) =
    (from ≤ next) × (participation_at participations next ≡ Some Called) × ((number : ℕ) → from ≤ number → number < next → participation_at participations number ≢ Some Called)

-- a tag whose slot comes next in a session, or none where there is no such tag
abbrev pub IsDue : List (Option Participation) → ℕ → Option ℕ → Type 0
IsDue participations session None = (number : ℕ) → participation_at participations number ≢ Some (Waits session 1)
IsDue participations session (Some due) = participation_at participations due ≡ Some (Waits session 1)

-- a tag after the slot counters of a session were counted down
abbrev pub counted_down : ℕ → Option Participation → Option Participation
counted_down session None = None
counted_down session (Some (Waits own slot)) = Some (Waits own (if own == session then slot_below slot else slot))
counted_down session (Some Called) = Some Called

-- the place of the tags that wait with this slot counter in a session, behind the base of that session
abbrev pub slot_place : ℕ → ℕ → ℕ → ℕ
slot_place base session slot = session * 32768 + (base + slot) % 32768

-- the slot counter of a place
abbrev pub slot_behind : ℕ → ℕ → ℕ
slot_behind base place = (place % 32768 + 32768 - base) % 32768

-- how a tag takes part that stands on a place, or on none, and has this bit in the set of called ones: it is called where it stands on none and the bit is 1
abbrev pub participation_on : List ℕ → ℕ → Option ℕ → Option Participation
participation_on bases bit None = if bit == 1 then Some Called else None
participation_on bases bit (Some place) = Some (Waits (place / 32768) (slot_behind (get_or bases (place / 32768) 0) place))

-- how the tags take part that are numbered from a number on, and stand on these places, or on none
abbrev pub participations_from : ℕ → List ℕ → List ℕ → List (Option ℕ) → List (Option Participation)
participations_from number bases called [] = []
participations_from number bases called (place ∷ places) = participation_on bases (bit_in_set called number) place ∷ participations_from (number + 1) bases called places

-- how each tag takes part
abbrev pub participations_on : List ℕ → List ℕ → List (Option ℕ) → List (Option Participation)
participations_on bases called places = participations_from 0 bases called places

-- a base of each session, which has 15 bits
pub record AreBases (bases : List ℕ) : Type 0 where
  pub count : length bases ≡ 4
  pub each : (session : ℕ) → get_or bases session 0 < 32768

-- the set of the called tags, each of which stands on no place
pub record AreCalled (called : List ℕ) (places : List (Option ℕ)) : Type 0 where
  pub few : length places ≤ most_tags
  pub within : (number : ℕ) → IsIn called number → number < length places
  pub nowhere : (number : ℕ) → IsIn called number → wheel_place_of places number ≡ None
