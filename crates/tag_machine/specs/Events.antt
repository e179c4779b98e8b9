-- What befalls a tag besides commands. That these things come as events is profile; what they do is that of 6.3.1.6 Link
-- timing (T2), 6.3.2.2 Sessions and inventoried flags (the table of persistence) and Annex B. An event that a clause doesn't
-- name changes nothing, and none changes a killed tag.
use Rattle.std.specs.Prelude.{ℕ, true, false, List}
use Rattle.command_fields.specs.declared.choices.FlagName.{FlagName}
use Rattle.session_flags.specs.Flags.{new_flags, flags_after_power_loss}
use Rattle.lock_rules.specs.declared.locks.Locks.{Locks}
use Rattle.tag_memory.specs.Memory.{Banks, with_stored_crc}
use Rattle.tag_memory.specs.Image.{banks_of}
use Rattle.tag_memory.specs.declared.image.BankImage.{BankImage}
use Rattle.air_events.specs.declared.Event.{Event}
use Rattle.air_events.specs.declared.Event.TheVariants as events
use Rattle.tag_machine.specs.TagValue.{StateValue, ReadyState, ArbitrateState, ReplyState, AcknowledgedState, OpenState, SecuredState, KilledState, UnpoweredState, BodyValue, TagValue}
pub use Rattle.tag_body.specs.BodyFlags.{body_after_expiry}

-- a tag in this state
abbrev pub tag_at : StateValue → BodyValue → TagValue
tag_at state body = record { state = state; body = body }

-- the time T2 ran out (6.3.2.4.3 Reply state, 6.3.2.4.4 Acknowledged state)
abbrev pub after_timeout : StateValue → BodyValue → TagValue
after_timeout (ReplyState session q rn) body = tag_at (ArbitrateState session q 0) body
after_timeout (AcknowledgedState session q rn) body = tag_at (ArbitrateState session q 0) body
after_timeout other body = tag_at other body

-- power is lost, and the inventoried flag of S0 with it
abbrev pub tag_without_power : BodyValue → TagValue
tag_without_power body = tag_at UnpoweredState (record body { flags = flags_after_power_loss body.flags })

-- power is lost, unless the tag is killed, which it stays
abbrev pub after_off : StateValue → BodyValue → TagValue
after_off KilledState body = tag_at KilledState body
after_off other body = tag_without_power body

-- power comes: a tag that had none is ready, with StoredCRC computed again
abbrev pub after_on : StateValue → BodyValue → TagValue
after_on UnpoweredState body = tag_at ReadyState (record body { memory = with_stored_crc body.memory })
after_on other body = tag_at other body

-- the persistence of a flag ends: it goes by whether the tag has power, and whether it takes part in a round, as it does
-- in every state but ready, killed and without power
abbrev pub after_expiry : FlagName → StateValue → BodyValue → TagValue
after_expiry flag ReadyState body = tag_at ReadyState (body_after_expiry flag true false body)
after_expiry flag (ArbitrateState session q slot) body = tag_at (ArbitrateState session q slot) (body_after_expiry flag true true body)
after_expiry flag (ReplyState session q rn) body = tag_at (ReplyState session q rn) (body_after_expiry flag true true body)
after_expiry flag (AcknowledgedState session q rn) body = tag_at (AcknowledgedState session q rn) (body_after_expiry flag true true body)
after_expiry flag (OpenState held) body = tag_at (OpenState held) (body_after_expiry flag true true body)
after_expiry flag (SecuredState held) body = tag_at (SecuredState held) (body_after_expiry flag true true body)
after_expiry flag KilledState body = tag_at KilledState body
after_expiry flag UnpoweredState body = tag_at UnpoweredState (body_after_expiry flag false false body)

abbrev pub tag_after_event : Event → StateValue → BodyValue → TagValue
tag_after_event events.Timeout state body = after_timeout state body
tag_after_event events.Off state body = after_off state body
tag_after_event events.On state body = after_on state body
tag_after_event (events.Expire flag) state body = after_expiry flag state body

-- a tag as it is when it is made: powered, in ready, with new flags and no draw made
abbrev pub new_tag : Banks → Locks → List ℕ → TagValue
new_tag memory locks words = tag_at ReadyState (record { memory = memory; locks = locks; flags = new_flags; words = words; next_draw = 0 })

-- a new tag whose memory is made of an image, with StoredCRC computed
abbrev pub tag_of_image : BankImage → Locks → List ℕ → TagValue
tag_of_image image locks words = new_tag (banks_of image) locks words
