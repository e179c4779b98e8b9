-- What comes of a command is what its kind says, of the words that are drawn.
use Rattle.std.proofs.Common.{rules, ◌≡◌, ℕ, ◌-◌, ◌≤◌, ◌==◌, Bool, true, false, List, Option, Some, None, if◌then◌else◌, refl, inl, inr, arith}
use Rattle.std.proofs.lemmas.Bool.Decides.{eqb_tells}
use Rattle.command_fields.specs.declared.choices.Sel.{Sel}
use Rattle.command_fields.specs.declared.choices.Side.{Side}
use Rattle.command_fields.specs.declared.choices.UpDn.{UpDn}
use Rattle.command_fields.specs.declared.choices.UpDn.TheVariants.{Up, Same, Down}
use Rattle.command_grammar.specs.declared.commands.Command.{Command}
use Rattle.command_grammar.specs.declared.commands.Command.TheVariants as commands
use Rattle.lock_rules.specs.declared.fields_and_levels.Level.{Level}
use Rattle.lock_rules.specs.declared.fields_and_levels.Level.TheVariants as levels
use Rattle.session_flags.specs.Flags.{matches}
use Rattle.reply_grammar.specs.declared.expected.Reply.TheVariants.{Handle}
use Rattle.tag_machine.specs.declared.states.Held.{Held}
use Rattle.tag_machine.specs.declared.states.Password.TheVariants as passwords
use Rattle.tag_machine.specs.TagValue.{StateValue, ReadyState, ArbitrateState, ReplyState, AcknowledgedState, OpenState, SecuredState, BodyValue}
use Rattle.tag_machine.specs.Answers.{Outcome, silent, plain_answer}
use Rattle.tag_machine.specs.Draws.{draw_of, body_after_draw, enter, body_after_inversion, close}
use Rattle.tag_machine.specs.Inventory.{take_part, body_after_close, end_turn, slot_below, count_down, q_after_adjust, query, query_rep, query_adjust}
use Rattle.tag_memory.specs.ReadsAndWrites.{banks_after_erase, banks_after_write}
use Rattle.tag_machine.specs.Access.{block_erase_outcome, block_write_outcome, lock_outcome, read_outcome, write_outcome, held_state, first_level, new_held, req_rn}
use Rattle.log_judge.specs.Explaining.{outcome_of_heard}
use Rattle.log_judge.specs.laws.Logs.{IsLegalHeard}
use Rattle.log_judge.specs.laws.Kinds.{Kind, Settled, Enters, Gives, reworded, take_kind, query_kind, count_kind, rep_kind, adjust_kind, first_held, number_kind, kind_of, ArbitrateMove, Stays, Leaves, Counts, move_of, HasSmallQ}
use Rattle.log_judge.proofs.KindOutcomes.{outcome_from, kind_at, KeepsSmallQ}
use Rattle.log_judge.proofs.Settling.{Settles, accessed, after_ack, after_half, after_nak, after_select, locked, memory_done, read_done, turn_ended, written}

-- an outcome is what a kind says of these words, and the kind keeps Q in its range
pub record IsOfKind (words : List ℕ) (place : ℕ) (outcome : Outcome) (kind : Kind) : Type 0 where
  pub is : outcome ≡ outcome_from kind words place
  pub small : KeepsSmallQ kind

pub adjusted : (updn : UpDn) (q : ℕ) → q ≤ 15 → q_after_adjust updn q ≤ 15
adjusted Up q small =
    elim (eqb_tells q 15) [
      | inl w ↦ rw w.0 (omega arith)
      | inr w ↦ rw w.0 (omega (arith, w.1, small))
    ]
adjusted Same q small = small
adjusted Down q small = by (q == 0)
  where
    by : (test : Bool) → (if test then 0 else q - 1) ≤ 15
    by true = omega arith
    by false = omega (arith, small)

module _ (words : List ℕ) (place : ℕ) where
  abbrev with_them : BodyValue → BodyValue
  with_them body = reworded words place body

  either : {x y : Outcome} {k l : Kind} (test : Bool) → IsOfKind words place x k → IsOfKind words place y l → IsOfKind words place (if test then x else y) (if test then k else l)
  either true of_x of_y = of_x
  either false of_x of_y = of_y

  settled : {one other : Outcome} → Settles words place one other → IsOfKind words place other (Settled one)
  settled settles = record { is = settles.same; small = settles.small }

  stays : (state : StateValue) (body : BodyValue) → HasSmallQ state → IsOfKind words place (silent state (with_them body)) (Settled (silent state body))
  stays state body small = record { is = refl; small = small }

  -- Query
  took_part : (sel : Sel) (session : ℕ) (target : Side) (q : ℕ) (body : BodyValue) → q ≤ 15 → IsOfKind words place (take_part sel session target q (with_them body)) (take_kind sel session target q body)
  took_part sel session target q body small = either (matches sel session target body.flags) (record { is = refl; small = small }) (stays ReadyState body tt)

  took_part_closed : (sel : Sel) (session : ℕ) (target : Side) (q own : ℕ) (body : BodyValue) → q ≤ 15
      → IsOfKind words place (take_part sel session target q (body_after_close own session (with_them body))) (take_kind sel session target q (body_after_close own session body))
  took_part_closed sel session target q own body small = by (own == session)
    where
      by : (test : Bool) → IsOfKind words place (take_part sel session target q (if test then body_after_inversion session (with_them body) else with_them body)) (take_kind sel session target q (if test then body_after_inversion session body else body))
      by true = took_part sel session target q (body_after_inversion session body) small
      by false = took_part sel session target q body small

  of_query : (sel : Sel) (session : ℕ) (target : Side) (q : ℕ) (state : StateValue) (body : BodyValue) → q ≤ 15
      → IsOfKind words place (query sel session target q state (with_them body)) (query_kind sel session target q state body)
  of_query sel session target q ReadyState body small = took_part sel session target q body small
  of_query sel session target q state body small = search (rules, took_part, took_part_closed, stays)

  -- QueryRep and QueryAdjust
  closed : (session : ℕ) (body : BodyValue) → IsOfKind words place (close session (with_them body)) (Settled (close session body))
  closed session body = record { is = refl; small = tt }

  ended : (session : ℕ) (held : Held) (body : BodyValue) → held.q ≤ 15 → IsOfKind words place (end_turn session held (with_them body)) (Settled (end_turn session held body))
  ended session held body small = settled (turn_ended words place session held body small)

  counted : (session q slot : ℕ) (body : BodyValue) → q ≤ 15 → IsOfKind words place (count_down session q slot (with_them body)) (count_kind session q slot body)
  counted session q slot body small = either (slot_below slot == 0) (record { is = refl; small = small }) (stays (ArbitrateState session q (slot_below slot)) body small)

  of_query_rep : (session : ℕ) (state : StateValue) (body : BodyValue) → HasSmallQ state → IsOfKind words place (query_rep session state (with_them body)) (rep_kind session state body)
  of_query_rep session ReadyState body small = stays ReadyState body tt
  of_query_rep session state body small = search (rules, either, counted, stays, closed, ended)

  entered : (test : Bool) (session q : ℕ) (state : StateValue) (body : BodyValue) → q ≤ 15 → HasSmallQ state
      → IsOfKind words place (if test then enter session q (with_them body) else silent state (with_them body)) (if test then Enters session q body else Settled (silent state body))
  entered test session q state body small in_range = either test (record { is = refl; small = small }) (stays state body in_range)

  of_query_adjust : (session : ℕ) (updn : UpDn) (state : StateValue) (body : BodyValue) → HasSmallQ state
      → IsOfKind words place (query_adjust session updn state (with_them body)) (adjust_kind session updn state body)
  of_query_adjust session updn ReadyState body small = stays ReadyState body tt
  of_query_adjust session updn state body small = search (rules, either, entered, adjusted, stays, closed, ended)

  -- Req_RN
  given : (test : Bool) (state : ℕ → StateValue) (before : StateValue) (body : BodyValue) → ((number : ℕ) → HasSmallQ (state number)) → HasSmallQ before
      → IsOfKind words place (if test then plain_answer (state (draw_of (with_them body))) (body_after_draw (with_them body)) (Handle (draw_of (with_them body))) 0 else silent before (with_them body))
      (if test then Gives state body else Settled (silent before body))
  given test state before body small in_range = either test (record { is = refl; small = small }) (stays before body in_range)

  first_small : (level : Level) (session q number : ℕ) → q ≤ 15 → HasSmallQ (held_state level (new_held session q number))
  first_small levels.Opened session q number small = small
  first_small levels.Secured session q number small = small

  of_req_rn : (rn : ℕ) (state : StateValue) (body : BodyValue) → HasSmallQ state → IsOfKind words place (req_rn rn state (with_them body)) (number_kind rn state body)
  of_req_rn rn (ArbitrateState session q slot) body small = stays (ArbitrateState session q slot) body small
  of_req_rn rn (ReplyState session q own) body small = record { is = refl; small = small }
  of_req_rn rn (AcknowledgedState session q own) body small =
      given (own == rn) (first_held session q body) (AcknowledgedState session q own) body (λ number. first_small (first_level body) session q number small) small
  of_req_rn rn (OpenState held) body small =
      given (held.handle == rn) (λ number. OpenState (record held { cover = Some number })) (OpenState held) body (λ number. small) small
  of_req_rn rn (SecuredState held) body small =
      given (held.handle == rn) (λ number. SecuredState (record held { cover = Some number })) (SecuredState held) body (λ number. small) small
  of_req_rn rn state body small = stays state body tt

  pub of_kind : (heard : Option Command) (state : StateValue) (body : BodyValue) → IsLegalHeard heard → HasSmallQ state
      → IsOfKind words place (outcome_of_heard heard (record { state = state; body = with_them body })) (kind_of heard state body)
  of_kind None state body legal small = stays state body small
  of_kind (Some (commands.QueryRep session)) state body legal small = of_query_rep session state body small
  of_kind (Some (commands.Ack rn)) state body legal small = settled (after_ack words place rn state body small)
  of_kind (Some (commands.Query dr line_code trext sel session target q)) state body legal small = of_query sel session target q state body legal.1
  of_kind (Some (commands.QueryAdjust session updn)) state body legal small = of_query_adjust session updn state body small
  of_kind (Some (commands.Select target action bank pointer mask)) state body legal small = settled (after_select words place target action bank pointer mask state body small)
  of_kind (Some commands.Nak) state body legal small = settled (after_nak words place state body small)
  of_kind (Some (commands.ReqRn rn)) state body legal small = of_req_rn rn state body small
  of_kind (Some (commands.Read bank pointer count rn)) state body legal small = settled (accessed words place rn None (read_outcome bank pointer count) state body small (read_done words place bank pointer count body))
  of_kind (Some (commands.Write bank pointer covered rn)) state body legal small = settled (accessed words place rn None (write_outcome bank pointer covered) state body small (written words place bank pointer covered body))
  of_kind (Some (commands.Kill covered rn)) state body legal small = settled (after_half words place passwords.Kill covered rn state body small)
  of_kind (Some (commands.Lock payload rn)) state body legal small = settled (accessed words place rn None (lock_outcome payload) state body small (locked words place payload body))
  of_kind (Some (commands.Access covered rn)) state body legal small = settled (after_half words place passwords.Access covered rn state body small)
  of_kind (Some (commands.BlockWrite bank pointer block rn)) state body legal small =
      settled (accessed words place rn None (block_write_outcome bank pointer block) state body small
      (λ level held. memory_done words place level held body (banks_after_write body.memory body.locks level bank pointer block)))
  of_kind (Some (commands.BlockErase bank pointer count rn)) state body legal small =
      settled (accessed words place rn None (block_erase_outcome bank pointer count) state body small
      (λ level held. memory_done words place level held body (banks_after_erase body.memory body.locks level bank pointer count)))

-- what a command does to a tag in arbitrate, by its slot counter
moved : (test : Bool) (session q slot : ℕ) (body : BodyValue) (one other : ArbitrateMove) → (if test then kind_at one session q body slot else kind_at other session q body slot) ≡ kind_at (if test then one else other) session q body slot
moved true session q slot body one other = refl
moved false session q slot body one other = refl

pub of_move : (heard : Option Command) (session q slot : ℕ) (body : BodyValue) → kind_of heard (ArbitrateState session q slot) body ≡ kind_at (move_of heard session q body) session q body slot
of_move (Some (commands.QueryRep other)) session q slot body = moved (session == other) session q slot body (Counts other) Stays
of_move (Some (commands.QueryAdjust other updn)) session q slot body = moved (session == other) session q slot body (Leaves (Enters other (q_after_adjust updn q) body)) Stays
of_move heard session q slot body = refl
