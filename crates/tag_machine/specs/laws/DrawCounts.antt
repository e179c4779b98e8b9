-- 6.3.2.5 Tag random or pseudo-random number generator; 6.3.2.4.8 Slot counter: how many words a tag draws when it hears a
-- command.
use Rattle.std.specs.Prelude.{ℕ, ◌==◌, if◌then◌else◌}
use Rattle.command_fields.specs.declared.choices.Sel.{Sel}
use Rattle.command_fields.specs.declared.choices.Side.{Side}
use Rattle.command_fields.specs.declared.choices.UpDn.{UpDn}
use Rattle.command_grammar.specs.declared.commands.Command.{Command}
use Rattle.command_grammar.specs.declared.commands.Command.TheVariants as commands
use Rattle.session_flags.specs.Flags.{matches}
use Rattle.tag_machine.specs.TagValue.{StateValue, ReadyState, ArbitrateState, ReplyState, AcknowledgedState, OpenState, SecuredState, KilledState, UnpoweredState, BodyValue}
use Rattle.tag_machine.specs.Draws.{slot_of_draw}
use Rattle.tag_machine.specs.Inventory.{body_after_close, slot_below, q_after_adjust}

-- ENTER draws a slot, and an RN16 besides where the slot is 0
abbrev pub draws_to_enter : ℕ → BodyValue → ℕ
draws_to_enter q body = (if slot_of_draw q body == 0 then 2 else 1)

-- how many words a tag draws at a Query: as many as at ENTER where it speaks to the tag, else none
abbrev pub draws_to_take_part : Sel → ℕ → Side → ℕ → BodyValue → ℕ
draws_to_take_part sel session target q body = (if matches sel session target body.flags then draws_to_enter q body else 0)

-- how many words a tag draws at a Query, in each state
abbrev pub query_draws : Sel → ℕ → Side → ℕ → StateValue → BodyValue → ℕ
query_draws sel session target q ReadyState body = draws_to_take_part sel session target q body
query_draws sel session target q (ArbitrateState own own_q slot) body = draws_to_take_part sel session target q body
query_draws sel session target q (ReplyState own own_q rn) body = draws_to_take_part sel session target q body
query_draws sel session target q (AcknowledgedState own own_q rn) body = draws_to_take_part sel session target q (body_after_close own session body)
query_draws sel session target q (OpenState held) body = draws_to_take_part sel session target q (body_after_close held.session session body)
query_draws sel session target q (SecuredState held) body = draws_to_take_part sel session target q (body_after_close held.session session body)
query_draws sel session target q KilledState body = 0
query_draws sel session target q UnpoweredState body = 0

-- a QueryRep of the tag's session lets it draw its RN16 where its counter falls to 0
abbrev pub query_rep_draws : ℕ → StateValue → ℕ
query_rep_draws session (ArbitrateState own q slot) = (if own == session then (if slot_below slot == 0 then 1 else 0) else 0)
query_rep_draws session other = 0

-- a QueryAdjust of the tag's session lets it do ENTER in arbitrate and reply
abbrev pub query_adjust_draws : ℕ → UpDn → StateValue → BodyValue → ℕ
query_adjust_draws session updn (ArbitrateState own q slot) body = (if own == session then draws_to_enter (q_after_adjust updn q) body else 0)
query_adjust_draws session updn (ReplyState own q rn) body = (if own == session then draws_to_enter (q_after_adjust updn q) body else 0)
query_adjust_draws session updn other body = 0

-- a Req_RN with the tag's number lets it draw a handle or a cover
abbrev pub req_rn_draws : ℕ → StateValue → ℕ
req_rn_draws rn (AcknowledgedState session q own) = (if own == rn then 1 else 0)
req_rn_draws rn (OpenState held) = (if held.handle == rn then 1 else 0)
req_rn_draws rn (SecuredState held) = (if held.handle == rn then 1 else 0)
req_rn_draws rn other = 0

-- no other command lets a tag draw
abbrev pub draws_in : Command → StateValue → BodyValue → ℕ
draws_in (commands.QueryRep session) state body = query_rep_draws session state
draws_in (commands.Query dr line_code trext sel session target q) state body = query_draws sel session target q state body
draws_in (commands.QueryAdjust session updn) state body = query_adjust_draws session updn state body
draws_in (commands.ReqRn rn) state body = req_rn_draws rn state
draws_in other state body = 0
