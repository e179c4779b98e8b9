-- 6.3.2.8 Inventorying Tag populations: where a round leaves one tag. Behind the round's Query the tag was the first tag value. It
-- was listed in a slot before the last one or not, and in the last one or not.
use Rattle.std.specs.Prelude.{◌≡◌, ℕ, Bool, true, false}
use Rattle.session_flags.specs.Flags.{flags_after_inversion}
use Rattle.tag_machine.specs.TagValue.{StateValue, ReadyState, ArbitrateState, ReplyState, AcknowledgedState, OpenState, SecuredState, KilledState, UnpoweredState, TagValue, is_present}
use Rattle.runs.specs.TagInRound.{is_matched, flags_in_round}

-- the tag is in acknowledged (6.3.2.4.4)
abbrev pub is_acknowledged : StateValue → Bool
is_acknowledged ReadyState = false
is_acknowledged (ArbitrateState session q slot) = false
is_acknowledged (ReplyState session q rn) = false
is_acknowledged (AcknowledgedState session q rn) = true
is_acknowledged (OpenState held) = false
is_acknowledged (SecuredState held) = false
is_acknowledged KilledState = false
is_acknowledged UnpoweredState = false

-- Behind a frame of silent slots: the tag was listed exactly where it matched, and not in the last slot. Where it is present, it
-- is ready. Where it matched, its flag of the round's session is inverted; all its other flags are as they were.
pub record StandsAtQuiet (session : ℕ) (first : TagValue) (listed listed_now : Bool) (tag : TagValue) : Type 0 where
  pub listed_is : listed ≡ is_matched first.state
  pub not_now : listed_now ≡ false
  pub ready : is_present tag.state ≡ true → tag.state ≡ ReadyState
  pub flags : tag.body.flags ≡ flags_in_round session (is_matched first.state) first.body.flags

-- Behind the last slot, whichever way the round ends. A tag that matched and wasn't listed is in arbitrate or reply, with its
-- flags as they were; one that was listed in the last slot is in acknowledged, with its flags as they were; one that was listed
-- in an earlier slot is ready, with its flag of the round's session inverted and its other flags as they were. A tag that didn't
-- match is ready, if it is present, with its flags as they were.
pub record StandsAtEnd (session : ℕ) (first : TagValue) (listed listed_now : Bool) (tag : TagValue) : Type 0 where
  pub unlisted : is_matched first.state ≡ true → listed ≡ false → listed_now ≡ false → (is_matched tag.state ≡ true) × (tag.body.flags ≡ first.body.flags)
  pub last : listed_now ≡ true → (is_acknowledged tag.state ≡ true) × (tag.body.flags ≡ first.body.flags)
  pub earlier : listed ≡ true → (tag.state ≡ ReadyState) × (tag.body.flags ≡ flags_after_inversion first.body.flags session)
  pub outside : is_matched first.state ≡ false → (is_present tag.state ≡ true → tag.state ≡ ReadyState) × (tag.body.flags ≡ first.body.flags)

-- A tag is listed in at most one slot of a round, and only where it matched.
pub record IsListedOnce (first : TagValue) (listed listed_now : Bool) : Type 0 where
  pub matched : listed ≡ true → is_matched first.state ≡ true
  pub matched_now : listed_now ≡ true → is_matched first.state ≡ true
  pub once : listed ≡ true → listed_now ≡ false
