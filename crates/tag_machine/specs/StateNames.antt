-- 6.3.2.4 Tag states and slot counter: the names of the states.
use Rattle.tag_machine.specs.declared.states.StateName.{StateName}
use Rattle.tag_machine.specs.declared.states.StateName.TheVariants as names
use Rattle.tag_machine.specs.TagValue.{StateValue, ReadyState, ArbitrateState, ReplyState, AcknowledgedState, OpenState, SecuredState, KilledState, UnpoweredState}

abbrev pub name_of : StateValue → StateName
name_of ReadyState = names.Ready
name_of (ArbitrateState session q slot) = names.Arbitrate
name_of (ReplyState session q rn) = names.InReply
name_of (AcknowledgedState session q rn) = names.Acknowledged
name_of (OpenState held) = names.Opened
name_of (SecuredState held) = names.Secured
name_of KilledState = names.Killed
name_of UnpoweredState = names.Unpowered
