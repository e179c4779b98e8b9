-- A frame of a round so far, and a tag that stands in the round.
use Rattle.runs.proofs.Names.{ℕ, Bool, List, Outcome, is_matched, IsBeforeSlot, StandsAfterSlot, StandsBeforeSlot, StateValue, TagValue}

-- a frame of a round so far
pub record Frame : Type 0 where
  pub session : ℕ
  pub q : ℕ
  pub slots : List Outcome

-- a tag in the round: what it was just after the Query, and whether it was listed in an earlier slot, and in this one
pub record Member : Type 0 where
  pub first : TagValue
  pub listed : Bool
  pub listed_now : Bool

-- what its state may be just before the next slot command, behind a slot that ended so
abbrev pub MayStand : Frame → Outcome → Member → StateValue → Type 0
MayStand on outcome of state = IsBeforeSlot on.session on.q outcome on.slots (is_matched of.first.state) of.listed of.listed_now state

-- the tag, listed in an earlier slot or not, stands so after a slot command in the frame
abbrev pub StandsAfter : Frame → (first : TagValue) (listed : Bool) → TagValue → Type 0
StandsAfter on first listed tag = StandsAfterSlot on.session on.q on.slots first listed tag

-- ... and so just before the next, where the slot between ended so
abbrev pub StandsBefore : Frame → Outcome → Member → TagValue → Type 0
StandsBefore on outcome of tag = StandsBeforeSlot on.session on.q outcome on.slots of.first of.listed of.listed_now tag
