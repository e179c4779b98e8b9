-- What a command does to a tag, as far as it doesn't go by what the tag draws (6.3.2.5 Tag random or pseudo-random number generator,
-- 6.3.2.4.8 Slot counter).
use Rattle.std.specs.Prelude.{ℕ, ◌≤◌, ◌==◌, List, Option, Some, None, if◌then◌else◌}
use Rattle.command_fields.specs.declared.choices.Sel.{Sel}
use Rattle.command_fields.specs.declared.choices.Side.{Side}
use Rattle.command_fields.specs.declared.choices.UpDn.{UpDn}
use Rattle.command_grammar.specs.declared.commands.Command.{Command}
use Rattle.command_grammar.specs.declared.commands.Command.TheVariants as commands
use Rattle.session_flags.specs.Flags.{matches}
use Rattle.tag_machine.specs.TagValue.{StateValue, ReadyState, ArbitrateState, ReplyState, AcknowledgedState, OpenState, SecuredState, KilledState, UnpoweredState, BodyValue}
use Rattle.tag_machine.specs.Answers.{Outcome, silent}
use Rattle.tag_machine.specs.Draws.{close, back}
use Rattle.tag_machine.specs.Inventory.{body_after_close, end_turn, slot_below, q_after_adjust, selected_ready}
use Rattle.tag_machine.specs.Access.{held_state, first_level, new_held}
use Rattle.tag_machine.specs.Step.{step}

-- other words, and the place of the next draw among them
abbrev pub reworded : List ℕ → ℕ → BodyValue → BodyValue
reworded words place body = record body { words = words; next_draw = place }

-- what a command does to a tag, but for the words that are drawn
pub data Kind : Type 0 where
  -- the tag draws nothing at the command, whose outcome is this
  Settled : (outcome : Outcome) → Kind
  -- ENTER: a slot is drawn, and an RN16 where it is 0
  Enters : (session q : ℕ) (body : BodyValue) → Kind
  -- an RN16 is drawn and answered
  Replies : (session q : ℕ) (body : BodyValue) → Kind
  -- a handle or a cover is drawn and answered, and the state holds it
  Gives : (state : ℕ → StateValue) (body : BodyValue) → Kind

-- 6.3.2.11.2.1 Query: ENTER where the flags are those that it speaks to, and else the tag is ready
abbrev pub take_kind : Sel → ℕ → Side → ℕ → BodyValue → Kind
take_kind sel session target q body = (if matches sel session target body.flags then Enters session q body else Settled (silent ReadyState body))

-- 6.3.2.11.2.1 Query in each state: a tag that was inventoried in the session closes first
abbrev pub query_kind : Sel → ℕ → Side → ℕ → StateValue → BodyValue → Kind
query_kind sel session target q ReadyState body = take_kind sel session target q body
query_kind sel session target q (ArbitrateState own own_q slot) body = take_kind sel session target q body
query_kind sel session target q (ReplyState own own_q rn) body = take_kind sel session target q body
query_kind sel session target q (AcknowledgedState own own_q rn) body = take_kind sel session target q (body_after_close own session body)
query_kind sel session target q (OpenState held) body = take_kind sel session target q (body_after_close held.session session body)
query_kind sel session target q (SecuredState held) body = take_kind sel session target q (body_after_close held.session session body)
query_kind sel session target q KilledState body = Settled (silent KilledState body)
query_kind sel session target q UnpoweredState body = Settled (silent UnpoweredState body)

-- 6.3.2.11.2.3 QueryRep: the slot counter falls by 1, and at 0 the tag answers
abbrev pub count_kind : ℕ → ℕ → ℕ → BodyValue → Kind
count_kind session q slot body =
    (if slot_below slot == 0 then Replies session q body else Settled (silent (ArbitrateState session q (slot_below slot)) body))

-- 6.3.2.11.2.3 QueryRep in each state
abbrev pub rep_kind : ℕ → StateValue → BodyValue → Kind
rep_kind session ReadyState body = Settled (silent ReadyState body)
rep_kind session (ArbitrateState own q slot) body =
    (if own == session then count_kind session q slot body else Settled (silent (ArbitrateState own q slot) body))
rep_kind session (ReplyState own q rn) body =
    (if own == session then Settled (silent (ArbitrateState session q 0x7FFF) body) else Settled (silent (ReplyState own q rn) body))
rep_kind session (AcknowledgedState own q rn) body =
    (if own == session then Settled (close session body) else Settled (silent (AcknowledgedState own q rn) body))
rep_kind session (OpenState held) body =
    (if held.session == session then Settled (end_turn session held body) else Settled (silent (OpenState held) body))
rep_kind session (SecuredState held) body =
    (if held.session == session then Settled (end_turn session held body) else Settled (silent (SecuredState held) body))
rep_kind session KilledState body = Settled (silent KilledState body)
rep_kind session UnpoweredState body = Settled (silent UnpoweredState body)

-- 6.3.2.11.2.2 QueryAdjust
abbrev pub adjust_kind : ℕ → UpDn → StateValue → BodyValue → Kind
adjust_kind session updn ReadyState body = Settled (silent ReadyState body)
adjust_kind session updn (ArbitrateState own q slot) body =
    (if own == session then Enters session (q_after_adjust updn q) body else Settled (silent (ArbitrateState own q slot) body))
adjust_kind session updn (ReplyState own q rn) body =
    (if own == session then Enters session (q_after_adjust updn q) body else Settled (silent (ReplyState own q rn) body))
adjust_kind session updn (AcknowledgedState own q rn) body =
    (if own == session then Settled (close session body) else Settled (silent (AcknowledgedState own q rn) body))
adjust_kind session updn (OpenState held) body =
    (if held.session == session then Settled (end_turn session held body) else Settled (silent (OpenState held) body))
adjust_kind session updn (SecuredState held) body =
    (if held.session == session then Settled (end_turn session held body) else Settled (silent (SecuredState held) body))
adjust_kind session updn KilledState body = Settled (silent KilledState body)
adjust_kind session updn UnpoweredState body = Settled (silent UnpoweredState body)

-- the state that holds a new handle or cover
abbrev pub first_held : ℕ → ℕ → BodyValue → ℕ → StateValue
first_held session q body number = held_state (first_level body) (new_held session q number)

-- 6.3.2.11.3.1 Req_RN
abbrev pub number_kind : ℕ → StateValue → BodyValue → Kind
number_kind rn ReadyState body = Settled (silent ReadyState body)
number_kind rn (ArbitrateState session q slot) body = Settled (silent (ArbitrateState session q slot) body)
number_kind rn (ReplyState session q own) body = Settled (back session q body)
number_kind rn (AcknowledgedState session q own) body =
    (if own == rn then Gives (first_held session q body) body else Settled (silent (AcknowledgedState session q own) body))
number_kind rn (OpenState held) body =
    (if held.handle == rn then Gives (λ number. OpenState (record held { cover = Some number })) body else Settled (silent (OpenState held) body))
number_kind rn (SecuredState held) body =
    (if held.handle == rn then Gives (λ number. SecuredState (record held { cover = Some number })) body else Settled (silent (SecuredState held) body))
number_kind rn KilledState body = Settled (silent KilledState body)
number_kind rn UnpoweredState body = Settled (silent UnpoweredState body)

-- of a command, or of bits that spell none
abbrev pub kind_of : Option Command → StateValue → BodyValue → Kind
kind_of None state body = Settled (silent state body)
kind_of (Some (commands.QueryRep session)) state body = rep_kind session state body
kind_of (Some (commands.Ack rn)) state body = Settled (step (commands.Ack rn) state body)
kind_of (Some (commands.Query dr line_code trext sel session target q)) state body = query_kind sel session target q state body
kind_of (Some (commands.QueryAdjust session updn)) state body = adjust_kind session updn state body
kind_of (Some (commands.Select target action bank pointer mask)) state body = Settled (step (commands.Select target action bank pointer mask) state body)
kind_of (Some commands.Nak) state body = Settled (step commands.Nak state body)
kind_of (Some (commands.ReqRn rn)) state body = number_kind rn state body
kind_of (Some (commands.Read bank pointer count rn)) state body = Settled (step (commands.Read bank pointer count rn) state body)
kind_of (Some (commands.Write bank pointer covered rn)) state body = Settled (step (commands.Write bank pointer covered rn) state body)
kind_of (Some (commands.Kill covered rn)) state body = Settled (step (commands.Kill covered rn) state body)
kind_of (Some (commands.Lock payload rn)) state body = Settled (step (commands.Lock payload rn) state body)
kind_of (Some (commands.Access covered rn)) state body = Settled (step (commands.Access covered rn) state body)
kind_of (Some (commands.BlockWrite bank pointer words rn)) state body = Settled (step (commands.BlockWrite bank pointer words rn) state body)
kind_of (Some (commands.BlockErase bank pointer count rn)) state body = Settled (step (commands.BlockErase bank pointer count rn) state body)

-- What a command does to a tag in arbitrate, whose slot counter stands aside.
pub data ArbitrateMove : Type 0 where
  -- the tag stays as it is
  Stays : ArbitrateMove
  -- the slot counter makes no difference
  Leaves : (kind : Kind) → ArbitrateMove
  -- it falls by 1, in a round of this session
  Counts : (session : ℕ) → ArbitrateMove

-- what a command does to a tag in arbitrate, in a round of this session and Q
abbrev pub move_of : Option Command → ℕ → ℕ → BodyValue → ArbitrateMove
move_of None own q body = Stays
move_of (Some (commands.QueryRep session)) own q body = (if own == session then Counts session else Stays)
move_of (Some (commands.Ack rn)) own q body = Stays
move_of (Some (commands.Query dr line_code trext sel session target new_q)) own q body = Leaves (take_kind sel session target new_q body)
move_of (Some (commands.QueryAdjust session updn)) own q body = (if own == session then Leaves (Enters session (q_after_adjust updn q) body) else Stays)
move_of (Some (commands.Select target action bank pointer mask)) own q body = Leaves (Settled (selected_ready target action bank pointer mask body))
move_of (Some commands.Nak) own q body = Stays
move_of (Some (commands.ReqRn rn)) own q body = Stays
move_of (Some (commands.Read bank pointer count rn)) own q body = Stays
move_of (Some (commands.Write bank pointer covered rn)) own q body = Stays
move_of (Some (commands.Kill covered rn)) own q body = Stays
move_of (Some (commands.Lock payload rn)) own q body = Stays
move_of (Some (commands.Access covered rn)) own q body = Stays
move_of (Some (commands.BlockWrite bank pointer words rn)) own q body = Stays
move_of (Some (commands.BlockErase bank pointer count rn)) own q body = Stays

-- Q of the round that a tag takes part in is in its range
abbrev pub HasSmallQ : StateValue → Type 0
HasSmallQ ReadyState = Unit {0}
HasSmallQ (ArbitrateState session q slot) = q ≤ 15
HasSmallQ (ReplyState session q rn) = q ≤ 15
HasSmallQ (AcknowledgedState session q rn) = q ≤ 15
HasSmallQ (OpenState held) = held.q ≤ 15
HasSmallQ (SecuredState held) = held.q ≤ 15
HasSmallQ KilledState = Unit {0}
HasSmallQ UnpoweredState = Unit {0}
