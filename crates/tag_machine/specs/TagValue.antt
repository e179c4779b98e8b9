-- 6.3.2.4 Tag states and slot counter: what a tag is at one moment, a state with the numbers that it holds, and what every
-- state holds besides. The state of a tag without power is profile.
use Rattle.std.specs.Prelude.{ℕ, ◌^◌, ◌<◌, ◌≤◌, Bool, true, false, Option, Some, None}
use Rattle.tag_machine.specs.declared.states.Half.{Half}
use Rattle.tag_machine.specs.declared.states.Held.{Held}
pub use Rattle.tag_body.specs.BodyValue.{BodyValue, IsLegalBody}

-- a state with the numbers that it holds. What open and secured hold is a session, Q, a handle, a cover or none, and a
-- first half of a password or none.
pub data StateValue : Type 0 where
  ReadyState : StateValue
  ArbitrateState : (session q slot : ℕ) → StateValue
  ReplyState : (session q rn : ℕ) → StateValue
  AcknowledgedState : (session q rn : ℕ) → StateValue
  OpenState : (held : Held) → StateValue
  SecuredState : (held : Held) → StateValue
  KilledState : StateValue
  UnpoweredState : StateValue

-- a tag: its state, and what it holds in every state
pub record TagValue : Type 0 where
  pub state : StateValue
  pub body : BodyValue

-- a number of 16 bits or none
abbrev pub IsWordOrNone : Option ℕ → Type 0
IsWordOrNone None = Unit {0}
IsWordOrNone (Some word) = word < 2 ^ 16

-- a half of a password, which has 16 bits, or none
abbrev pub IsHalfOrNone : Option Half → Type 0
IsHalfOrNone None = Unit {0}
IsHalfOrNone (Some half) = half.value < 2 ^ 16

-- each number of open and secured is in its range
pub record IsLegalHeld (held : Held) : Type 0 where
  pub session : held.session ≤ 3
  pub q : held.q ≤ 15
  pub handle : held.handle < 2 ^ 16
  pub cover : IsWordOrNone held.cover
  pub half : IsHalfOrNone held.half

-- each number of a state is in its range; a slot counter has 15 bits (6.3.2.4.8 Slot counter)
abbrev pub IsLegalState : StateValue → Type 0
IsLegalState ReadyState = Unit {0}
IsLegalState (ArbitrateState session q slot) = (session ≤ 3) × (q ≤ 15) × (slot < 2 ^ 15)
IsLegalState (ReplyState session q rn) = (session ≤ 3) × (q ≤ 15) × (rn < 2 ^ 16)
IsLegalState (AcknowledgedState session q rn) = (session ≤ 3) × (q ≤ 15) × (rn < 2 ^ 16)
IsLegalState (OpenState held) = IsLegalHeld held
IsLegalState (SecuredState held) = IsLegalHeld held
IsLegalState KilledState = Unit {0}
IsLegalState UnpoweredState = Unit {0}

-- the state and what is held besides have their numbers in their ranges
pub record IsLegalTag (tag : TagValue) : Type 0 where
  pub state : IsLegalState tag.state
  pub body : IsLegalBody tag.body

-- a tag is present where it has power and isn't killed
abbrev pub is_present : StateValue → Bool
is_present ReadyState = true
is_present (ArbitrateState session q slot) = true
is_present (ReplyState session q rn) = true
is_present (AcknowledgedState session q rn) = true
is_present (OpenState held) = true
is_present (SecuredState held) = true
is_present KilledState = false
is_present UnpoweredState = false
