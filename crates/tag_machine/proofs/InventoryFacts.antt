-- What is known of the outcomes of Select and of the inventory commands, state by state.
use Rattle.std.proofs.Common.{◌≡◌, ℕ, ◌^◌, ◌<◌, ◌≤◌, ◌==◌, Bool, true, false, List, drop, length, Some, if◌then◌else◌, refl, ◌∙◌, ap, arith, inl, inr, length-drop}
use Rattle.std.proofs.lemmas.Bool.Decides.{eqb_tells}
use Rattle.std.proofs.lemmas.List.{length-take-le}
use Rattle.std.proofs.lemmas.Bool.{eqb-true}
use Rattle.std.proofs.lemmas.List.Elements.{All-take, All-drop, All-get_or}
use Rattle.bit_strings.specs.declared.code.Code.{Code}
use Rattle.command_fields.specs.declared.choices.FlagName.{FlagName}
use Rattle.command_fields.specs.declared.choices.MaskBank.{MaskBank}
use Rattle.command_fields.specs.declared.choices.Sel.{Sel}
use Rattle.command_fields.specs.declared.choices.Side.{Side}
use Rattle.command_fields.specs.declared.choices.UpDn.{UpDn}
use Rattle.command_fields.specs.declared.choices.UpDn.TheVariants.{Up, Same, Down}
use Rattle.command_grammar.specs.declared.commands.Command.{Command}
use Rattle.command_grammar.specs.declared.commands.Command.TheVariants as commands
use Rattle.reply_grammar.specs.Replies.{AreWords}
use Rattle.session_flags.specs.Actions.{effect_of}
use Rattle.session_flags.specs.Flags.{matches}
use Rattle.session_flags.specs.laws.FlagLaws.{side_of-flags_after_effect, sl-flags_after_effect}
use Rattle.tag_memory.specs.Memory.{pc_of, epc_of, length_in}
use Rattle.tag_machine.specs.declared.states.Held.{Held}
use Rattle.tag_machine.specs.TagValue.{StateValue, ReadyState, ArbitrateState, ReplyState, AcknowledgedState, OpenState, SecuredState, BodyValue, IsLegalHeld, IsLegalBody, IsLegalState}
use Rattle.tag_machine.specs.Answers.{IsSent, silent, plain_answer}
use Rattle.tag_machine.specs.Draws.{draw_of, body_after_draw, begin_reply, enter, body_after_inversion, close, back}
use Rattle.tag_machine.specs.Inventory.{unless_half, take_part, query, end_turn, slot_below, count_down, query_rep, q_after_adjust, query_adjust, epc_reply, ack, nak, selected_body, selected_ready, select}
use Rattle.tag_machine.specs.laws.DrawCounts.{draws_in, draws_to_enter, draws_to_take_part}
use Rattle.tag_machine.specs.laws.AnswersByCommand.{rn_or_handle_of, IsEpcAnswer}
use Rattle.tag_machine.proofs.BodyFacts.{IsLegalAt, BodyFacts, same_body, with_flags, inverted, word_drawn, behind_draw}
use Rattle.tag_machine.proofs.OutcomeFacts.{InRange, Facts, AnswersRn16, either, past_half, silently, answering, stays, goes_back, closes, turn_ends, of_session, begun, entered}

-- Query and QueryAdjust draw the slot before the RN16
second_drawn : (body : BodyValue) → IsLegalBody body → draw_of (body_after_draw body) < 2 ^ 16
second_drawn body legal = word_drawn (body_after_draw body) (behind_draw body legal)

took_part : {command : Command} {state : StateValue} {before after : BodyValue} (sel : Sel) (session : ℕ) (target : Side) (q : ℕ) → BodyFacts command state before after 0 → draws_in command state before ≡ draws_to_take_part sel session target q after → InRange command state before session q → AnswersRn16 command state before (draw_of (body_after_draw before)) → Facts command state before (take_part sel session target q after)
took_part {command} {state} {before} {after} sel session target q of_body draws in_range answers =
    either (Facts command state before) (matches sel session target after.flags) (enter session q after) (silent ReadyState after)
    (λ is.
    let some : draws_to_take_part sel session target q after ≡ draws_to_enter q after = rw is refl in
    entered session q of_body (draws ∙ some) in_range answers)
    (λ is.
    let none : draws_to_take_part sel session target q after ≡ 0 = rw is refl in
    silently of_body (draws ∙ none) (λ of_command legal. tt))

-- in acknowledged, open and secured the flag of the tag's session is inverted first, where that is the session of the Query
pub to_query : (dr : Bool) (line_code : Code) (trext : Bool) (sel : Sel) (session : ℕ) (target : Side) (q : ℕ) (state : StateValue) (body : BodyValue) → Facts (commands.Query dr line_code trext sel session target q) state body (query sel session target q state body)
to_query dr line_code trext sel session target q state body = by state
  where
    rn16 : (any : StateValue) → AnswersRn16 (commands.Query dr line_code trext sel session target q) any body (draw_of (body_after_draw body))
    rn16 any = record { plain = refl; is_answer = λ sent is. is; small = second_drawn body }

    takes : (any : StateValue) → draws_in (commands.Query dr line_code trext sel session target q) any body ≡ draws_to_take_part sel session target q body → Facts (commands.Query dr line_code trext sel session target q) any body (take_part sel session target q body)
    takes any draws = took_part sel session target q same_body draws (λ of_command legal. of_command) (rn16 any)

    closes_first : (any : StateValue) (is_own : Bool) → draws_in (commands.Query dr line_code trext sel session target q) any body ≡ draws_to_take_part sel session target q (if is_own then body_after_inversion session body else body) → Facts (commands.Query dr line_code trext sel session target q) any body (take_part sel session target q (if is_own then body_after_inversion session body else body))
    closes_first any true draws = took_part sel session target q (inverted session (λ other is. is)) draws (λ of_command legal. of_command) (rn16 any)
    closes_first any false draws = takes any draws

    by : (any : StateValue) → Facts (commands.Query dr line_code trext sel session target q) any body (query sel session target q any body)
    by ReadyState = takes ReadyState refl
    by (ArbitrateState own own_q slot) = takes (ArbitrateState own own_q slot) refl
    by (ReplyState own own_q rn) = takes (ReplyState own own_q rn) refl
    by (AcknowledgedState own own_q rn) = closes_first (AcknowledgedState own own_q rn) (own == session) refl
    by (OpenState held) = closes_first (OpenState held) (held.session == session) refl
    by (SecuredState held) = closes_first (SecuredState held) (held.session == session) refl
    by absent = stays refl

-- QueryRep
slot_stays_small : (slot : ℕ) → slot < 2 ^ 15 → slot_below slot < 2 ^ 15
slot_stays_small slot small =
    elim (eqb_tells slot 0) [
      | inl w ↦ rw w.0 (omega arith)
      | inr w ↦ rw w.0 (omega arith)
    ]

counts_down : (own session q slot : ℕ) (body : BodyValue) → (own == session) ≡ true → Facts (commands.QueryRep session) (ArbitrateState own q slot) body (count_down session q slot body)
counts_down own session q slot body same =
    let command = commands.QueryRep session in
    let state = ArbitrateState own q slot in
    either (Facts command state body) (slot_below slot == 0) (begin_reply session q body) (silent (ArbitrateState session q (slot_below slot)) body)
    (λ now.
    let one : draws_in command state body ≡ 1 = rw (same, now) refl in
    begun same_body one (λ of_command legal. (of_command, legal.state.1))
    (record { plain = refl; is_answer = λ sent is. is; small = word_drawn body }) refl)
    (λ later.
    let none : draws_in command state body ≡ 0 = rw (same, later) refl in
    silently same_body none (λ of_command legal. (of_command, legal.state.1, slot_stays_small slot legal.state.2)))

pub to_query_rep : (session : ℕ) (state : StateValue) (body : BodyValue) → Facts (commands.QueryRep session) state body (query_rep session state body)
to_query_rep session (ArbitrateState own q slot) body =
    of_session own session (count_down session q slot body) (counts_down own session q slot body) (λ apart. rw apart refl)
to_query_rep session (ReplyState own q rn) body =
    of_session own session (silent (ArbitrateState session q 0x7FFF) body)
    (λ same. silently same_body refl (λ of_command legal. (of_command, legal.state.1, omega arith))) (λ apart. refl)
to_query_rep session (AcknowledgedState own q rn) body =
    of_session own session (close session body) (λ same. closes session refl (λ other is. is)) (λ apart. refl)
to_query_rep session (OpenState held) body =
    of_session held.session session (end_turn session held body)
    (λ same. turn_ends session held refl (λ other is. is) (λ of_command legal. (of_command, legal.state.q))) (λ apart. refl)
to_query_rep session (SecuredState held) body =
    of_session held.session session (end_turn session held body)
    (λ same. turn_ends session held refl (λ other is. is) (λ of_command legal. (of_command, legal.state.q))) (λ apart. refl)
to_query_rep session state body = stays refl

-- QueryAdjust
q_stays_small : (updn : UpDn) (q : ℕ) → q ≤ 15 → q_after_adjust updn q ≤ 15
q_stays_small Up q small =
    elim (eqb_tells q 15) [
      | inl w ↦ rw w.0 (omega arith)
      | inr w ↦ rw w.0 (omega (arith, w.1))
    ]
q_stays_small Same q small = small
q_stays_small Down q small =
    elim (eqb_tells q 0) [
      | inl w ↦ rw w.0 (omega arith)
      | inr w ↦ rw w.0 (omega arith)
    ]

-- ... of a tag in arbitrate or reply, whose state has this session and Q
adjusts : (session : ℕ) (updn : UpDn) (state : StateValue) (own q : ℕ) (body : BodyValue) → (draws_in (commands.QueryAdjust session updn) state body ≡ (if own == session then draws_to_enter (q_after_adjust updn q) body else 0)) → InRange (commands.QueryAdjust session updn) state body session q → Facts (commands.QueryAdjust session updn) state body (if own == session then enter session (q_after_adjust updn q) body else silent state body)
adjusts session updn state own q body draws in_range =
    let new_q = q_after_adjust updn q in
    of_session own session (enter session new_q body)
    (λ same.
    let some : (if own == session then draws_to_enter new_q body else 0) ≡ draws_to_enter new_q body = rw same refl in
    entered session new_q same_body (draws ∙ some)
    (λ of_command legal. let round = in_range of_command legal in (round.0, q_stays_small updn q round.1))
    (record { plain = refl; is_answer = λ sent is. is; small = second_drawn body }))
    (λ apart.
    let none : (if own == session then draws_to_enter new_q body else 0) ≡ 0 = rw apart refl in
    draws ∙ none)

pub to_query_adjust : (session : ℕ) (updn : UpDn) (state : StateValue) (body : BodyValue) → Facts (commands.QueryAdjust session updn) state body (query_adjust session updn state body)
to_query_adjust session updn (ArbitrateState own q slot) body =
    adjusts session updn (ArbitrateState own q slot) own q body refl (λ of_command legal. (of_command, legal.state.1))
to_query_adjust session updn (ReplyState own q rn) body =
    adjusts session updn (ReplyState own q rn) own q body refl (λ of_command legal. (of_command, legal.state.1))
to_query_adjust session updn (AcknowledgedState own q rn) body =
    of_session own session (close session body) (λ same. closes session refl (λ other is. is)) (λ apart. refl)
to_query_adjust session updn (OpenState held) body =
    of_session held.session session (end_turn session held body)
    (λ same. turn_ends session held refl (λ other is. is) (λ of_command legal. (of_command, legal.state.q))) (λ apart. refl)
to_query_adjust session updn (SecuredState held) body =
    of_session held.session session (end_turn session held body)
    (λ same. turn_ends session held refl (λ other is. is) (λ of_command legal. (of_command, legal.state.q))) (λ apart. refl)
to_query_adjust session updn state body = stays refl

-- ACK
epc_fits : (rn : ℕ) (state : StateValue) (body : BodyValue) → rn_or_handle_of state ≡ Some rn → IsLegalBody body → IsEpcAnswer rn state body (record { reply = epc_reply body; handle = 0; extended = false }) × IsSent (Some (record { reply = epc_reply body; handle = 0; extended = false }))
epc_fits rn state body number legal =
    let P : ℕ → Type 0 = λ word. word < 2 ^ 16 in
    let banks = body.memory in
    let pc_small : pc_of banks < 2 ^ 16 = All-get_or P banks.epc 1 0 (omega (arith, legal.memory.epc_least)) legal.memory_words.epc in
    let epc_small : AreWords (epc_of banks) = All-take P (length_in (pc_of banks)) (drop 2 banks.epc) (All-drop P 2 banks.epc legal.memory_words.epc) in
    let enough : length_in (pc_of banks) ≤ length (drop 2 banks.epc) = omega (arith, length-drop 2 banks.epc, legal.memory.length_fits) in
    let counted : length (epc_of banks) ≡ length_in (pc_of banks) = length-take-le (length_in (pc_of banks)) (drop 2 banks.epc) enough in
    (record { number = number; reply = refl; plain = refl }, ((pc_small, epc_small, counted), omega arith, tt))

-- ... of a tag with this number, session and Q, which answers from the state behind it or goes back
acked : {state : StateValue} {body : BodyValue} (rn own session q : ℕ) (behind : StateValue) → rn_or_handle_of state ≡ Some own → InRange (commands.Ack rn) state body session q → (IsLegalAt state body → IsLegalState behind) → Facts (commands.Ack rn) state body (if own == rn then plain_answer behind body (epc_reply body) 0 else back session q body)
acked {state} {body} rn own session q behind number in_range legal_behind =
    either (Facts (commands.Ack rn) state body) (own == rn) (plain_answer behind body (epc_reply body) 0) (back session q body)
    (λ same.
    answering (record { reply = epc_reply body; handle = 0; extended = false }) same_body refl (λ of_command legal. legal_behind legal)
    (record {
      fits = λ legal. epc_fits rn state body (number ∙ ap (λ n. Some n) (eqb-true own rn same)) legal.body;
      marked = refl;
      refused = λ code is. refl;
    }))
    (λ other. goes_back refl in_range)

acked_held : (rn : ℕ) (state : StateValue) (held : Held) (body : BodyValue) → rn_or_handle_of state ≡ Some held.handle → (IsLegalAt state body → IsLegalHeld held) → Facts (commands.Ack rn) state body (unless_half held.half (back held.session held.q body) (if held.handle == rn then plain_answer state body (epc_reply body) 0 else back held.session held.q body))
acked_held rn state held body number legal_held =
    let in_range : InRange (commands.Ack rn) state body held.session held.q = λ of_command legal. ((legal_held legal).session, (legal_held legal).q) in
    past_half (Facts (commands.Ack rn) state body) held.half (back held.session held.q body) (if held.handle == rn then plain_answer state body (epc_reply body) 0 else back held.session held.q body)
    (goes_back refl in_range) (acked rn held.handle held.session held.q state number in_range (λ legal. legal.state))

pub to_ack : (rn : ℕ) (state : StateValue) (body : BodyValue) → Facts (commands.Ack rn) state body (ack rn state body)
to_ack rn (ReplyState session q own) body =
    acked rn own session q (AcknowledgedState session q own) refl (λ of_command legal. (legal.state.0, legal.state.1)) (λ legal. legal.state)
to_ack rn (AcknowledgedState session q own) body =
    acked rn own session q (AcknowledgedState session q own) refl (λ of_command legal. (legal.state.0, legal.state.1)) (λ legal. legal.state)
to_ack rn (OpenState held) body = acked_held rn (OpenState held) held body refl (λ legal. legal.state)
to_ack rn (SecuredState held) body = acked_held rn (SecuredState held) held body refl (λ legal. legal.state)
to_ack rn state body = stays refl

-- NAK
pub to_nak : (state : StateValue) (body : BodyValue) → Facts commands.Nak state body (nak state body)
to_nak (ReplyState session q rn) body = goes_back refl (λ of_command legal. (legal.state.0, legal.state.1))
to_nak (AcknowledgedState session q rn) body = goes_back refl (λ of_command legal. (legal.state.0, legal.state.1))
to_nak (OpenState held) body = goes_back refl (λ of_command legal. (legal.state.session, legal.state.q))
to_nak (SecuredState held) body = goes_back refl (λ of_command legal. (legal.state.session, legal.state.q))
to_nak state body = stays refl

-- Select
selected : {state : StateValue} (target : FlagName) (action : ℕ) (bank : MaskBank) (pointer : ℕ) (mask : List Bool) (body : BodyValue) → Facts (commands.Select target action bank pointer mask) state body (selected_ready target action bank pointer mask body)
selected target action bank pointer mask body =
    let command = commands.Select target action bank pointer mask in
    silently (with_flags (selected_body target action bank pointer mask body).flags (record {
      sides = λ session small other. side_of-flags_after_effect body.flags target (effect_of action _) session small other;
      sl = λ other. sl-flags_after_effect body.flags target (effect_of action _) other;
    })) refl (λ of_command legal. tt)

selected_held : (target : FlagName) (action : ℕ) (bank : MaskBank) (pointer : ℕ) (mask : List Bool) (state : StateValue) (held : Held) (body : BodyValue) → (IsLegalAt state body → IsLegalHeld held) → Facts (commands.Select target action bank pointer mask) state body (unless_half held.half (back held.session held.q body) (selected_ready target action bank pointer mask body))
selected_held target action bank pointer mask state held body legal_held =
    past_half (Facts (commands.Select target action bank pointer mask) state body) held.half (back held.session held.q body) (selected_ready target action bank pointer mask body)
    (goes_back refl (λ of_command legal. ((legal_held legal).session, (legal_held legal).q))) (selected target action bank pointer mask body)

pub to_select : (target : FlagName) (action : ℕ) (bank : MaskBank) (pointer : ℕ) (mask : List Bool) (state : StateValue) (body : BodyValue) → Facts (commands.Select target action bank pointer mask) state body (select target action bank pointer mask state body)
to_select target action bank pointer mask ReadyState body = selected target action bank pointer mask body
to_select target action bank pointer mask (ArbitrateState session q slot) body = selected target action bank pointer mask body
to_select target action bank pointer mask (ReplyState session q rn) body = selected target action bank pointer mask body
to_select target action bank pointer mask (AcknowledgedState session q rn) body = selected target action bank pointer mask body
to_select target action bank pointer mask (OpenState held) body = selected_held target action bank pointer mask (OpenState held) held body (λ legal. legal.state)
to_select target action bank pointer mask (SecuredState held) body = selected_held target action bank pointer mask (SecuredState held) held body (λ legal. legal.state)
to_select target action bank pointer mask state body = stays refl
