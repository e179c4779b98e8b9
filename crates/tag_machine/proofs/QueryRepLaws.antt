-- A tag in arbitrate whose slot has not come waits, and a tag outside the session of a command is silent.
use Rattle.std.proofs.Common.{◌≡◌, ◌≢◌, ℕ, ◌==◌, true, Option, Some, None, if◌then◌else◌, refl, ap, arith, inl, inr}
use Rattle.std.proofs.lemmas.Bool.{eq-eqb, eqb-true, ne_eqb}
use Rattle.std.proofs.lemmas.Bool.Decides.{eqb_tells}
use Rattle.command_fields.specs.declared.choices.UpDn.{UpDn}
use Rattle.command_grammar.specs.declared.commands.Command.TheVariants as commands
use Rattle.tag_machine.specs.declared.states.Held.{Held}
use Rattle.tag_machine.specs.TagValue.{StateValue, ReadyState, ArbitrateState, ReplyState, AcknowledgedState, OpenState, SecuredState, BodyValue}
use Rattle.tag_machine.specs.Answers.{Sent, Outcome, silent}
use Rattle.tag_machine.specs.Draws.{begin_reply, enter, body_after_inversion, close, back}
use Rattle.tag_machine.specs.Inventory.{slot_below, count_down, q_after_adjust, end_turn}
use Rattle.tag_machine.specs.Slots.{session_of, slot_of, is_beyond_arbitrate}
use Rattle.tag_machine.specs.Step.{step}
use Rattle.tag_machine.proofs.OutcomeFacts.{either, past_half}

not_yet : (slot : ℕ) → slot ≢ 1 → slot_below slot ≢ 0
not_yet slot later =
    elim (eqb_tells slot 0) [
      | inl w ↦ rw w.0 (omega arith)
      | inr w ↦ rw w.0 (omega (arith, w.1, later))
    ]

pub waits : (session q slot : ℕ) (body : BodyValue) → slot ≢ 1 → step (commands.QueryRep session) (ArbitrateState session q slot) body ≡ silent (ArbitrateState session q (slot_below slot)) body
waits session q slot body later = rw (eq-eqb session session refl, ne_eqb (slot_below slot) 0 (not_yet slot later)) refl

-- a command of another session
other : (own session : ℕ) (outcome stays : Outcome) → Some own ≢ Some session → (if own == session then outcome else stays) ≡ stays
other own session outcome stays apart = rw (ne_eqb own session (λ is. apart (ap (λ n. Some n) is))) refl

pub other_rep : (session : ℕ) (state : StateValue) (body : BodyValue) → session_of state ≢ Some session → step (commands.QueryRep session) state body ≡ silent state body
other_rep session (ArbitrateState own q slot) body apart = other own session (count_down session q slot body) (silent (ArbitrateState own q slot) body) apart
other_rep session (ReplyState own q rn) body apart = other own session (silent (ArbitrateState session q 0x7FFF) body) (silent (ReplyState own q rn) body) apart
other_rep session (AcknowledgedState own q rn) body apart = other own session (close session body) (silent (AcknowledgedState own q rn) body) apart
other_rep session (OpenState held) body apart = other held.session session (end_turn session held body) (silent (OpenState held) body) apart
other_rep session (SecuredState held) body apart = other held.session session (end_turn session held body) (silent (SecuredState held) body) apart
other_rep session state body apart = refl

pub other_adjust : (session : ℕ) (updn : UpDn) (state : StateValue) (body : BodyValue) → session_of state ≢ Some session → step (commands.QueryAdjust session updn) state body ≡ silent state body
other_adjust session updn (ArbitrateState own q slot) body apart = other own session (enter session (q_after_adjust updn q) body) (silent (ArbitrateState own q slot) body) apart
other_adjust session updn (ReplyState own q rn) body apart = other own session (enter session (q_after_adjust updn q) body) (silent (ReplyState own q rn) body) apart
other_adjust session updn (AcknowledgedState own q rn) body apart = other own session (close session body) (silent (AcknowledgedState own q rn) body) apart
other_adjust session updn (OpenState held) body apart = other held.session session (end_turn session held body) (silent (OpenState held) body) apart
other_adjust session updn (SecuredState held) body apart = other held.session session (end_turn session held body) (silent (SecuredState held) body) apart
other_adjust session updn state body apart = refl

-- who answers a QueryRep
abbrev IsInSlot : ℕ → StateValue → Type 0
IsInSlot session state = (session_of state ≡ Some session) × (slot_of state ≡ Some 1)

-- what is sent comes from a tag of the session whose slot is next
abbrev FromSlot : ℕ → StateValue → Outcome → Type 0
FromSlot session before outcome = (sent : Sent) → outcome.answer ≡ Some sent → IsInSlot session before

silent_now : (session : ℕ) (before after : StateValue) (body : BodyValue) → FromSlot session before (silent after body)
silent_now session before after body = λ sent is. absurd (cc)

last_slot : (slot : ℕ) → slot_below slot ≡ 0 → slot ≡ 1
last_slot slot is =
    elim (eqb_tells slot 1) [
      | inl w ↦ w.1
      | inr w ↦ absurd (not_yet slot w.1 is)
    ]

in_slot : (own session slot : ℕ) → (own == session) ≡ true → (slot_below slot == 0) ≡ true → (Some own ≡ Some session) × (Some slot ≡ Some 1)
in_slot own session slot same_session last =
    (ap (λ n. Some n) (eqb-true own session same_session), ap (λ n. Some n) (last_slot slot (eqb-true (slot_below slot) 0 last)))

of_session : (own session : ℕ) (before : StateValue) (body : BodyValue) (outcome : Outcome) → FromSlot session before outcome → FromSlot session before (if own == session then outcome else silent before body)
of_session own session before body outcome given =
    either (FromSlot session before) (own == session) outcome (silent before body) (λ same. given) (λ apart. silent_now session before before body)

turn_ended : (session : ℕ) (before : StateValue) (held : Held) (body : BodyValue) → FromSlot session before (end_turn session held body)
turn_ended session before held body =
    past_half (FromSlot session before) held.half (back session held.q body) (close session body)
    (silent_now session before (ArbitrateState session held.q 0) body) (silent_now session before ReadyState (body_after_inversion session body))

pub answers_in_slot : (session : ℕ) (state : StateValue) (body : BodyValue) → FromSlot session state (step (commands.QueryRep session) state body)
answers_in_slot session (ArbitrateState own q slot) body =
    let state = ArbitrateState own q slot in
    either (FromSlot session state) (own == session) (count_down session q slot body) (silent state body)
    (λ same_session.
    either (FromSlot session state) (slot_below slot == 0) (begin_reply session q body) (silent (ArbitrateState session q (slot_below slot)) body)
    (λ last. λ sent is. in_slot own session slot same_session last)
    (λ later. silent_now session state (ArbitrateState session q (slot_below slot)) body))
    (λ apart. silent_now session state state body)
answers_in_slot session (ReplyState own q rn) body =
    let state = ReplyState own q rn in
    of_session own session state body (silent (ArbitrateState session q 0x7FFF) body) (silent_now session state (ArbitrateState session q 0x7FFF) body)
answers_in_slot session (AcknowledgedState own q rn) body =
    let state = AcknowledgedState own q rn in
    of_session own session state body (close session body) (silent_now session state ReadyState (body_after_inversion session body))
answers_in_slot session (OpenState held) body = of_session held.session session (OpenState held) body (end_turn session held body) (turn_ended session (OpenState held) held body)
answers_in_slot session (SecuredState held) body = of_session held.session session (SecuredState held) body (end_turn session held body) (turn_ended session (SecuredState held) held body)
answers_in_slot session state body = silent_now session state state body

no_answer : (answer : Option Sent) → ((sent : Sent) → answer ≡ Some sent → ⊥) → answer ≡ None
no_answer None none = refl
no_answer (Some sent) none = absurd (none sent refl)

no_slot : (state : StateValue) → is_beyond_arbitrate state ≡ true → slot_of state ≡ Some 1 → ⊥
no_slot (ArbitrateState own q slot) beyond is = cc
no_slot state beyond is = cc

pub silent_beyond : (session : ℕ) (state : StateValue) (body : BodyValue) → is_beyond_arbitrate state ≡ true → (step (commands.QueryRep session) state body).answer ≡ None
silent_beyond session state body beyond =
    no_answer (step (commands.QueryRep session) state body).answer (λ sent is. no_slot state beyond (answers_in_slot session state body sent is).1)
