-- 6.3.2.4.8 Slot counter: the session and the slot counter that a tag holds.
use Rattle.std.specs.Prelude.{ℕ, Bool, true, false, Option, Some, None}
use Rattle.tag_machine.specs.TagValue.{StateValue, ArbitrateState, ReplyState, AcknowledgedState, OpenState, SecuredState}

-- the session of the round that a tag takes part in
abbrev pub session_of : StateValue → Option ℕ
session_of (ArbitrateState session q slot) = Some session
session_of (ReplyState session q rn) = Some session
session_of (AcknowledgedState session q rn) = Some session
session_of (OpenState held) = Some held.session
session_of (SecuredState held) = Some held.session
session_of other = None

-- the slot counter, which arbitrate alone has
abbrev pub slot_of : StateValue → Option ℕ
slot_of (ArbitrateState session q slot) = Some slot
slot_of other = None

-- a tag whose slot has come: in reply, acknowledged, open or secured
abbrev pub is_beyond_arbitrate : StateValue → Bool
is_beyond_arbitrate (ReplyState session q rn) = true
is_beyond_arbitrate (AcknowledgedState session q rn) = true
is_beyond_arbitrate (OpenState held) = true
is_beyond_arbitrate (SecuredState held) = true
is_beyond_arbitrate other = false
