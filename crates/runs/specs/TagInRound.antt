-- 6.3.2.8 Inventorying Tag populations: where one tag stands in a round whose exchanges are left as they are: nothing befalls a
-- tag, no tag misses a command, nothing is chosen of what the channel gives, and the interrogator sends slot commands and ACKs
-- alone. The slots of a frame are those since the last Query or QueryAdjust. A list of outcomes stands latest first.
use Rattle.std.specs.Prelude.{◌≡◌, ◌≢◌, ℕ, ◌+◌, ◌^◌, ◌≤◌, ◌==◌, ◌⊎◌, Bool, true, false, List, ◌∷◌, ◌++◌, length, Option, Some, None, if◌then◌else◌}
use Rattle.reply_grammar.specs.declared.expected.Reply.TheVariants.{Rn16}
use Rattle.session_flags.specs.declared.flags.Flags.{Flags}
use Rattle.session_flags.specs.Flags.{flags_after_inversion}
use Rattle.q_round.specs.declared.frame.Outcome.{Outcome}
use Rattle.q_round.specs.declared.frame.Outcome.TheVariants.{Silence}
use Rattle.tag_machine.specs.Answers.{Sent}
use Rattle.tag_machine.specs.TagValue.{StateValue, ReadyState, ArbitrateState, ReplyState, AcknowledgedState, OpenState, SecuredState, KilledState, UnpoweredState, BodyValue, TagValue}
pub use Rattle.two_portals.specs.Played.{flags_in_round}

-- 6.3.2.11.2.1 Query: a tag that takes part in the round is in arbitrate or reply behind its Query
abbrev pub is_matched : StateValue → Bool
is_matched ReadyState = false
is_matched (ArbitrateState session q slot) = true
is_matched (ReplyState session q rn) = true
is_matched (AcknowledgedState session q rn) = false
is_matched (OpenState held) = false
is_matched (SecuredState held) = false
is_matched KilledState = false
is_matched UnpoweredState = false

-- 6.3.2.11.2.1 Query: the flags behind it. A tag that was inventoried in the session of the Query has its flag of that session
-- inverted, and no Query changes another flag.
abbrev pub flags_closed : ℕ → ℕ → Flags → Flags
flags_closed own session flags = (if own == session then flags_after_inversion flags session else flags)

abbrev pub flags_behind_query : ℕ → StateValue → Flags → Flags
flags_behind_query session ReadyState flags = flags
flags_behind_query session (ArbitrateState own q slot) flags = flags
flags_behind_query session (ReplyState own q rn) flags = flags
flags_behind_query session (AcknowledgedState own q rn) flags = flags_closed own session flags
flags_behind_query session (OpenState held) flags = flags_closed held.session session flags
flags_behind_query session (SecuredState held) flags = flags_closed held.session session flags
flags_behind_query session KilledState flags = flags
flags_behind_query session UnpoweredState flags = flags

-- 6.3.2.4.8 Slot counter: the tag's slot is still to come, in a frame of 2 ^ Q slots that had these slots before the present one
pub record IsToCome (q : ℕ) (frame : List Outcome) (slot : ℕ) : Type 0 where
  pub least : 1 ≤ slot
  pub most : slot + (length frame + 1) ≤ 2 ^ q

-- The tag answered in a slot of this frame that wasn't silent, and wasn't listed: its counter fell from 0 to 7FFFh with the next
-- slot, and by 1 with each slot behind that one.
pub record HasAnswered (frame : List Outcome) (slot : ℕ) : Type 0 where
  pub later : List Outcome
  pub outcome : Outcome
  pub earlier : List Outcome
  pub in_frame : frame ≡ later ++ outcome ∷ earlier
  pub heard : outcome ≢ Silence
  pub counter : slot + length later ≡ 0x7FFF

-- the slot counter of a tag in arbitrate, in the slot that comes behind the slots of this frame
abbrev pub IsCounter : ℕ → List Outcome → ℕ → Type 0
IsCounter q frame slot = IsToCome q frame slot ⊎ HasAnswered frame slot

-- the tag takes part in the round, with its session and Q, and isn't listed yet
pub record IsUnlisted (session q : ℕ) (matched listed : Bool) (own own_q : ℕ) : Type 0 where
  pub session_is : own ≡ session
  pub q_is : own_q ≡ q
  pub takes_part : matched ≡ true
  pub not_listed : listed ≡ false

-- the tag takes no part in the round
pub record IsOutside (matched listed : Bool) : Type 0 where
  pub no_part : matched ≡ false
  pub not_listed : listed ≡ false

-- a tag in arbitrate
pub record IsInArbitrate (session q : ℕ) (frame : List Outcome) (matched listed : Bool) (own own_q slot : ℕ) : Type 0 where
  pub unlisted : IsUnlisted session q matched listed own own_q
  pub counter : IsCounter q frame slot

-- What a tag may be after a slot command of a round, in a frame that had these slots before the one that begins: it matched or
-- not, and was listed in a slot of the round or not. A tag that is ready was listed, where it matched.
abbrev pub IsAfterSlot : (session q : ℕ) → List Outcome → (matched listed : Bool) → StateValue → Type 0
IsAfterSlot session q frame matched listed ReadyState = listed ≡ matched
IsAfterSlot session q frame matched listed (ArbitrateState own own_q slot) = IsInArbitrate session q frame matched listed own own_q slot
IsAfterSlot session q frame matched listed (ReplyState own own_q rn) = IsUnlisted session q matched listed own own_q
IsAfterSlot session q frame matched listed (AcknowledgedState own own_q rn) = ⊥
IsAfterSlot session q frame matched listed (OpenState held) = ⊥
IsAfterSlot session q frame matched listed (SecuredState held) = ⊥
IsAfterSlot session q frame matched listed KilledState = IsOutside matched listed
IsAfterSlot session q frame matched listed UnpoweredState = IsOutside matched listed

-- a tag that is ready, killed or without power, and so isn't listed in this slot
pub record IsDone (matched listed listed_now : Bool) : Type 0 where
  pub earlier : listed ≡ matched
  pub not_now : listed_now ≡ false

-- the slot counter of a tag in arbitrate just before the next slot command: as it was, or 0 where the tag answered in this
-- slot, and the interrogator acknowledged another number (6.3.2.11.2.4 ACK)
abbrev pub IsCounterBefore : ℕ → Outcome → List Outcome → ℕ → Type 0
IsCounterBefore q outcome frame slot = IsCounter q frame slot ⊎ (slot ≡ 0) × (outcome ≢ Silence)

-- a tag in arbitrate just before the next slot command
pub record IsInArbitrateBefore (session q : ℕ) (outcome : Outcome) (frame : List Outcome) (matched listed listed_now : Bool) (own own_q slot : ℕ) : Type 0 where
  pub unlisted : IsUnlisted session q matched listed own own_q
  pub not_now : listed_now ≡ false
  pub counter : IsCounterBefore q outcome frame slot

-- a tag that answered in this slot, and to which no ACK came
pub record IsInReplyBefore (session q : ℕ) (outcome : Outcome) (matched listed listed_now : Bool) (own own_q : ℕ) : Type 0 where
  pub unlisted : IsUnlisted session q matched listed own own_q
  pub not_now : listed_now ≡ false
  pub heard : outcome ≢ Silence

-- a tag that was listed in this slot
pub record IsListedNow (session q : ℕ) (outcome : Outcome) (matched listed listed_now : Bool) (own own_q : ℕ) : Type 0 where
  pub unlisted : IsUnlisted session q matched listed own own_q
  pub now : listed_now ≡ true
  pub heard : outcome ≢ Silence

-- What a tag may be just before the next slot command, or before the end of the round: the slot that ends had this outcome, and
-- the tag was listed in an earlier slot of the round or not, and in this slot or not.
abbrev pub IsBeforeSlot : (session q : ℕ) → Outcome → List Outcome → (matched listed listed_now : Bool) → StateValue → Type 0
IsBeforeSlot session q outcome frame matched listed listed_now ReadyState = IsDone matched listed listed_now
IsBeforeSlot session q outcome frame matched listed listed_now (ArbitrateState own own_q slot) = IsInArbitrateBefore session q outcome frame matched listed listed_now own own_q slot
IsBeforeSlot session q outcome frame matched listed listed_now (ReplyState own own_q rn) = IsInReplyBefore session q outcome matched listed listed_now own own_q
IsBeforeSlot session q outcome frame matched listed listed_now (AcknowledgedState own own_q rn) = IsListedNow session q outcome matched listed listed_now own own_q
IsBeforeSlot session q outcome frame matched listed listed_now (OpenState held) = ⊥
IsBeforeSlot session q outcome frame matched listed listed_now (SecuredState held) = ⊥
IsBeforeSlot session q outcome frame matched listed listed_now KilledState = IsOutside matched listed × (listed_now ≡ false)
IsBeforeSlot session q outcome frame matched listed listed_now UnpoweredState = IsOutside matched listed × (listed_now ≡ false)

-- what a round does not change in a tag, whose body just after the Query was the first one, and which was listed in an earlier
-- slot or not
pub record KeepsBody (session : ℕ) (listed : Bool) (first body : BodyValue) : Type 0 where
  pub flags : body.flags ≡ flags_in_round session listed first.flags
  pub memory : body.memory ≡ first.memory
  pub locks : body.locks ≡ first.locks

-- where a tag stands after a slot command of a round, behind whose Query it was the first tag value
pub record StandsAfterSlot (session q : ℕ) (frame : List Outcome) (first : TagValue) (listed : Bool) (tag : TagValue) : Type 0 where
  pub state : IsAfterSlot session q frame (is_matched first.state) listed tag.state
  pub body : KeepsBody session listed first.body tag.body

-- where a tag stands just before the next slot command of a round or before the end of the round, behind whose Query it was the first tag value
pub record StandsBeforeSlot (session q : ℕ) (outcome : Outcome) (frame : List Outcome) (first : TagValue) (listed listed_now : Bool) (tag : TagValue) : Type 0 where
  pub state : IsBeforeSlot session q outcome frame (is_matched first.state) listed listed_now tag.state
  pub body : KeepsBody session listed first.body tag.body

-- what a tag that is in this state after a slot command answered it with (6.3.2.11.2): its RN16, where it is in reply
abbrev pub slot_answer_of : StateValue → Option Sent
slot_answer_of ReadyState = None
slot_answer_of (ArbitrateState session q slot) = None
slot_answer_of (ReplyState session q rn) = Some (record { reply = Rn16 rn; handle = 0; extended = false })
slot_answer_of (AcknowledgedState session q rn) = None
slot_answer_of (OpenState held) = None
slot_answer_of (SecuredState held) = None
slot_answer_of KilledState = None
slot_answer_of UnpoweredState = None

-- 6.3.2.11.2.4 ACK: the tag is in reply with this RN16
abbrev pub is_acknowledged_by : ℕ → StateValue → Bool
is_acknowledged_by rn ReadyState = false
is_acknowledged_by rn (ArbitrateState session q slot) = false
is_acknowledged_by rn (ReplyState session q own) = own == rn
is_acknowledged_by rn (AcknowledgedState session q own) = false
is_acknowledged_by rn (OpenState held) = false
is_acknowledged_by rn (SecuredState held) = false
is_acknowledged_by rn KilledState = false
is_acknowledged_by rn UnpoweredState = false
