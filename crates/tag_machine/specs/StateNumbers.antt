-- 6.3.2.4 Tag states and slot counter: the numbers that each state holds.
use Rattle.tag_machine.specs.declared.state_numbers.StateNumbers.{StateNumbers}
use Rattle.tag_machine.specs.declared.state_numbers.StateNumbers.TheVariants as numbers
use Rattle.tag_machine.specs.TagValue.{StateValue, ReadyState, ArbitrateState, ReplyState, AcknowledgedState, OpenState, SecuredState, KilledState, UnpoweredState}

abbrev pub numbers_of : StateValue → StateNumbers
numbers_of ReadyState = numbers.None
numbers_of (ArbitrateState session q slot) = numbers.Waiting session q slot
numbers_of (ReplyState session q rn) = numbers.Replied session q rn
numbers_of (AcknowledgedState session q rn) = numbers.Replied session q rn
numbers_of (OpenState held) = numbers.Held held
numbers_of (SecuredState held) = numbers.Held held
numbers_of KilledState = numbers.None
numbers_of UnpoweredState = numbers.None
