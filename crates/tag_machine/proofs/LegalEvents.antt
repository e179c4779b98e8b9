-- A tag that an event befalls stays legal.
use Rattle.std.proofs.Common.{Bool, true, false, arith}
use Rattle.air_events.specs.declared.Event.{Event}
use Rattle.air_events.specs.declared.Event.TheVariants as events
use Rattle.command_fields.specs.declared.choices.FlagName.{FlagName}
use Rattle.session_flags.specs.Flags.{flags_after_power_loss, flags_after_expiry}
use Rattle.tag_memory.specs.Memory.{with_stored_crc}
use Rattle.tag_machine.specs.TagValue.{StateValue, ReadyState, ReplyState, AcknowledgedState, KilledState, UnpoweredState, BodyValue, IsLegalBody, IsLegalTag}
use Rattle.tag_machine.specs.Events.{after_timeout, tag_without_power, after_off, after_on, body_after_expiry, after_expiry, tag_after_event}
use Rattle.tag_machine.proofs.BodyFacts.{IsLegalAt, legal_with_flags, legal_with_memory, sound_of}
use Rattle.tag_machine.proofs.LegalMemory.{stored_crc_sound}

timed_out : (state : StateValue) (body : BodyValue) → IsLegalAt state body → IsLegalTag (after_timeout state body)
timed_out (ReplyState session q rn) body before = record { state = (before.state.0, before.state.1, omega arith); body = before.body }
timed_out (AcknowledgedState session q rn) body before = record { state = (before.state.0, before.state.1, omega arith); body = before.body }
timed_out state body before = before

without : (body : BodyValue) → IsLegalBody body → IsLegalTag (tag_without_power body)
without body of_body = record { state = tt; body = legal_with_flags body (flags_after_power_loss body.flags) of_body }

turned_off : (state : StateValue) (body : BodyValue) → IsLegalAt state body → IsLegalTag (after_off state body)
turned_off KilledState body before = before
turned_off state body before = without body before.body

turned_on : (state : StateValue) (body : BodyValue) → IsLegalAt state body → IsLegalTag (after_on state body)
turned_on UnpoweredState body before =
    let memory = with_stored_crc body.memory in
    record { state = tt; body = legal_with_memory body memory before.body (stored_crc_sound body.memory (sound_of body before.body)) }
turned_on state body before = before

flag_ended : (flag : FlagName) (powered takes_part : Bool) (state : StateValue) (body : BodyValue) → IsLegalAt state body → IsLegalAt state (body_after_expiry flag powered takes_part body)
flag_ended flag powered takes_part state body before =
    record { state = before.state; body = legal_with_flags body (flags_after_expiry body.flags flag powered takes_part) before.body }

expiry_keeps : (flag : FlagName) (state : StateValue) (body : BodyValue) → IsLegalAt state body → IsLegalTag (after_expiry flag state body)
expiry_keeps flag ReadyState body before = flag_ended flag true false ReadyState body before
expiry_keeps flag KilledState body before = before
expiry_keeps flag UnpoweredState body before = flag_ended flag false false UnpoweredState body before
expiry_keeps flag state body before = flag_ended flag true true state body before

pub event_keeps : (event : Event) (state : StateValue) (body : BodyValue) → IsLegalAt state body → IsLegalTag (tag_after_event event state body)
event_keeps events.Timeout state body before = timed_out state body before
event_keeps events.Off state body before = turned_off state body before
event_keeps events.On state body before = turned_on state body before
event_keeps (events.Expire flag) state body before = expiry_keeps flag state body before
