-- 6.3.2.8 Inventorying Tag populations, 6.3.2.11.1 Select and 6.3.2.11.2 Inventory commands; Annex B and Annex C: what
-- each of these commands does in each state. A state that a command doesn't name stays as it is, without a reply. A
-- session in an effect is the command's, which is the tag's where the two are compared.
use Rattle.std.specs.Prelude.{ℕ, ◌==◌, Bool, List, Option, Some, None, if◌then◌else◌}
use Rattle.command_fields.specs.declared.choices.FlagName.{FlagName}
use Rattle.command_fields.specs.declared.choices.MaskBank.{MaskBank}
use Rattle.command_fields.specs.declared.choices.Sel.{Sel}
use Rattle.command_fields.specs.declared.choices.Side.{Side}
use Rattle.command_fields.specs.declared.choices.UpDn.{UpDn}
use Rattle.reply_grammar.specs.declared.expected.Reply.{Reply}
use Rattle.reply_grammar.specs.declared.expected.Reply.TheVariants.{Epc}
use Rattle.session_flags.specs.Flags.{matches}
use Rattle.tag_memory.specs.Memory.{pc_of, epc_of}
use Rattle.tag_machine.specs.declared.states.Half.{Half}
use Rattle.tag_machine.specs.declared.states.Held.{Held}
use Rattle.tag_machine.specs.TagValue.{StateValue, ReadyState, ArbitrateState, ReplyState, AcknowledgedState, OpenState, SecuredState, KilledState, UnpoweredState, BodyValue}
use Rattle.tag_machine.specs.Answers.{Outcome, silent, plain_answer}
use Rattle.tag_machine.specs.Draws.{enter, begin_reply, close, back}
pub use Rattle.tag_body.specs.BodyFlags.{body_after_close, selected_body}
pub use Rattle.tag_body.specs.RoundNumbers.{slot_below, q_after_adjust}

-- 6.3.2.11.2.1 Query: a tag that matches takes the session and Q and draws its slot, another is ready
abbrev pub take_part : Sel → ℕ → Side → ℕ → BodyValue → Outcome
take_part sel session target q body =
    (if matches sel session target body.flags then enter session q body else silent ReadyState body)

abbrev pub query : Sel → ℕ → Side → ℕ → StateValue → BodyValue → Outcome
query sel session target q ReadyState body = take_part sel session target q body
query sel session target q (ArbitrateState own own_q slot) body = take_part sel session target q body
query sel session target q (ReplyState own own_q rn) body = take_part sel session target q body
query sel session target q (AcknowledgedState own own_q rn) body = take_part sel session target q (body_after_close own session body)
query sel session target q (OpenState held) body = take_part sel session target q (body_after_close held.session session body)
query sel session target q (SecuredState held) body = take_part sel session target q (body_after_close held.session session body)
query sel session target q KilledState body = silent KilledState body
query sel session target q UnpoweredState body = silent UnpoweredState body

-- an unfinished Kill or Access ends where another command comes: the tag is in arbitrate; else the tag does what it does
abbrev pub unless_half : Option Half → Outcome → Outcome → Outcome
unless_half None instead outcome = outcome
unless_half (Some half) instead outcome = instead

-- the end of a tag's turn: CLOSE, or BACK where a Kill or Access is unfinished
abbrev pub end_turn : ℕ → Held → BodyValue → Outcome
end_turn session held body = unless_half held.half (back session held.q body) (close session body)

-- 6.3.2.11.2.3 QueryRep, of the tag's session: with slot 0 the tag replies
abbrev pub count_down : ℕ → ℕ → ℕ → BodyValue → Outcome
count_down session q slot body =
    (if slot_below slot == 0
    then begin_reply session q body
    else silent (ArbitrateState session q (slot_below slot)) body)

abbrev pub query_rep : ℕ → StateValue → BodyValue → Outcome
query_rep session ReadyState body = silent ReadyState body
query_rep session (ArbitrateState own q slot) body =
    (if own == session then count_down session q slot body else silent (ArbitrateState own q slot) body)
query_rep session (ReplyState own q rn) body =
    (if own == session then silent (ArbitrateState session q 0x7FFF) body else silent (ReplyState own q rn) body)
query_rep session (AcknowledgedState own q rn) body =
    (if own == session then close session body else silent (AcknowledgedState own q rn) body)
query_rep session (OpenState held) body =
    (if held.session == session then end_turn session held body else silent (OpenState held) body)
query_rep session (SecuredState held) body =
    (if held.session == session then end_turn session held body else silent (SecuredState held) body)
query_rep session KilledState body = silent KilledState body
query_rep session UnpoweredState body = silent UnpoweredState body

-- 6.3.2.11.2.2 QueryAdjust, of the tag's session: in arbitrate and reply it draws a slot by the new Q, beyond them its turn ends
abbrev pub query_adjust : ℕ → UpDn → StateValue → BodyValue → Outcome
query_adjust session updn ReadyState body = silent ReadyState body
query_adjust session updn (ArbitrateState own q slot) body =
    (if own == session then enter session (q_after_adjust updn q) body else silent (ArbitrateState own q slot) body)
query_adjust session updn (ReplyState own q rn) body =
    (if own == session then enter session (q_after_adjust updn q) body else silent (ReplyState own q rn) body)
query_adjust session updn (AcknowledgedState own q rn) body =
    (if own == session then close session body else silent (AcknowledgedState own q rn) body)
query_adjust session updn (OpenState held) body =
    (if held.session == session then end_turn session held body else silent (OpenState held) body)
query_adjust session updn (SecuredState held) body =
    (if held.session == session then end_turn session held body else silent (SecuredState held) body)
query_adjust session updn KilledState body = silent KilledState body
query_adjust session updn UnpoweredState body = silent UnpoweredState body

-- the answer to an ACK: PC and the EPC, whose CRC-16 is computed over the bits sent (profile)
abbrev pub epc_reply : BodyValue → Reply
epc_reply body = Epc (pc_of body.memory) (epc_of body.memory)

-- 6.3.2.11.2.4 ACK: with the tag's RN16 or handle the tag answers PC and EPC, with another number it goes back
abbrev pub ack : ℕ → StateValue → BodyValue → Outcome
ack rn ReadyState body = silent ReadyState body
ack rn (ArbitrateState session q slot) body = silent (ArbitrateState session q slot) body
ack rn (ReplyState session q own) body =
    (if own == rn then plain_answer (AcknowledgedState session q own) body (epc_reply body) 0 else back session q body)
ack rn (AcknowledgedState session q own) body =
    (if own == rn then plain_answer (AcknowledgedState session q own) body (epc_reply body) 0 else back session q body)
ack rn (OpenState held) body =
    unless_half held.half (back held.session held.q body)
    (if held.handle == rn then plain_answer (OpenState held) body (epc_reply body) 0 else back held.session held.q body)
ack rn (SecuredState held) body =
    unless_half held.half (back held.session held.q body)
    (if held.handle == rn then plain_answer (SecuredState held) body (epc_reply body) 0 else back held.session held.q body)
ack rn KilledState body = silent KilledState body
ack rn UnpoweredState body = silent UnpoweredState body

-- 6.3.2.11.2.5 NAK: a tag in reply, acknowledged, open or secured goes back to arbitrate
abbrev pub nak : StateValue → BodyValue → Outcome
nak ReadyState body = silent ReadyState body
nak (ArbitrateState session q slot) body = silent (ArbitrateState session q slot) body
nak (ReplyState session q rn) body = back session q body
nak (AcknowledgedState session q rn) body = back session q body
nak (OpenState held) body = back held.session held.q body
nak (SecuredState held) body = back held.session held.q body
nak KilledState body = silent KilledState body
nak UnpoweredState body = silent UnpoweredState body

-- a Select changes its flag, and the tag is ready
abbrev pub selected_ready : FlagName → ℕ → MaskBank → ℕ → List Bool → BodyValue → Outcome
selected_ready target action bank pointer mask body = silent ReadyState (selected_body target action bank pointer mask body)

-- 6.3.2.11.1.1 Select. That no flag changes where a Kill or Access is unfinished is profile.
abbrev pub select : FlagName → ℕ → MaskBank → ℕ → List Bool → StateValue → BodyValue → Outcome
select target action bank pointer mask ReadyState body = selected_ready target action bank pointer mask body
select target action bank pointer mask (ArbitrateState session q slot) body = selected_ready target action bank pointer mask body
select target action bank pointer mask (ReplyState session q rn) body = selected_ready target action bank pointer mask body
select target action bank pointer mask (AcknowledgedState session q rn) body = selected_ready target action bank pointer mask body
select target action bank pointer mask (OpenState held) body =
    unless_half held.half (back held.session held.q body) (selected_ready target action bank pointer mask body)
select target action bank pointer mask (SecuredState held) body =
    unless_half held.half (back held.session held.q body) (selected_ready target action bank pointer mask body)
select target action bank pointer mask KilledState body = silent KilledState body
select target action bank pointer mask UnpoweredState body = silent UnpoweredState body
