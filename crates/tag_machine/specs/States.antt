-- What a contract sees of the type of each state.
use Rattle.tag_machine.specs.declared.states.Ready.{Ready}
use Rattle.tag_machine.specs.declared.states.Arbitrate.{Arbitrate}
use Rattle.tag_machine.specs.declared.states.InReply.{InReply}
use Rattle.tag_machine.specs.declared.states.Acknowledged.{Acknowledged}
use Rattle.tag_machine.specs.declared.states.Opened.{Opened}
use Rattle.tag_machine.specs.declared.states.Secured.{Secured}
use Rattle.tag_machine.specs.declared.states.Killed.{Killed}
use Rattle.tag_machine.specs.declared.states.Unpowered.{Unpowered}
use Rattle.tag_machine.specs.TagValue.{StateValue, ReadyState, ArbitrateState, ReplyState, AcknowledgedState, OpenState, SecuredState, KilledState, UnpoweredState}

abbrev pub ready_state : Ready → StateValue
ready_state state = ReadyState

abbrev pub arbitrate_state : Arbitrate → StateValue
arbitrate_state state = ArbitrateState state.session state.q state.slot

abbrev pub reply_state : InReply → StateValue
reply_state state = ReplyState state.session state.q state.rn

abbrev pub acknowledged_state : Acknowledged → StateValue
acknowledged_state state = AcknowledgedState state.session state.q state.rn

abbrev pub open_state : Opened → StateValue
open_state state = OpenState state.held

abbrev pub secured_state : Secured → StateValue
secured_state state = SecuredState state.held

abbrev pub killed_state : Killed → StateValue
killed_state state = KilledState

abbrev pub unpowered_state : Unpowered → StateValue
unpowered_state state = UnpoweredState
