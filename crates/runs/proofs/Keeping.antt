-- What the commands of a round without operations keep of a tag: its memory, its locks, and that it is present.
use Rattle.runs.proofs.Names.{◌≡◌, ℕ, Bool, true, false, refl, ◌∙◌, ◌==◌, Option, Some, None, if◌then◌else◌, Sel, Side, UpDn, enter, slot_of_draw, ack, end_turn, q_after_adjust, query_adjust}
use Rattle.runs.proofs.Names.{query_rep, slot_below, unless_half, StateValue, ReadyState, ArbitrateState, ReplyState, AcknowledgedState, OpenState, SecuredState, KilledState, UnpoweredState}
use Rattle.runs.proofs.Names.{BodyValue, TagValue, is_present, Half, Held}
use Rattle.tag_machine.specs.Answers.{Outcome}
use Rattle.tag_machine.specs.Inventory.{query}
use Rattle.runs.proofs.TagQuery.{query-begins}

-- what a tag keeps
pub record Keeps (before after : TagValue) : Type 0 where
  pub memory : after.body.memory ≡ before.body.memory
  pub locks : after.body.locks ≡ before.body.locks
  pub present : is_present before.state ≡ true → is_present after.state ≡ true

-- ... and where it is present after a command
record Stays (body : BodyValue) (outcome : Outcome) : Type 0 where
  memory : outcome.tag.body.memory ≡ body.memory
  locks : outcome.tag.body.locks ≡ body.locks
  present : is_present outcome.tag.state ≡ true

stays : (body : BodyValue) (outcome : Outcome) → outcome.tag.body.memory ≡ body.memory → outcome.tag.body.locks ≡ body.locks → is_present outcome.tag.state ≡ true → Stays body outcome
stays body outcome memory locks present = record { memory = memory; locks = locks; present = present }

either : (body : BodyValue) (test : Bool) (one other : Outcome) → Stays body one → Stays body other → Stays body (if test then one else other)
either body true one other first second = first
either body false one other first second = second

half : (body : BodyValue) (held : Option Half) (instead outcome : Outcome) → Stays body instead → Stays body outcome → Stays body (unless_half held instead outcome)
half body None instead outcome first second = second
half body (Some one) instead outcome first second = first

enters : (session q : ℕ) (body : BodyValue) → Stays body (enter session q body)
enters session q body = either body (slot_of_draw q body == 0) _ _ (stays body _ refl refl refl) (stays body _ refl refl refl)

ends-turn : (session : ℕ) (held : Held) (body : BodyValue) → Stays body (end_turn session held body)
ends-turn session held body = half body held.half _ _ (stays body _ refl refl refl) (stays body _ refl refl refl)

-- a tag that is present
kept : (state : StateValue) (body : BodyValue) (outcome : Outcome) → Stays body outcome → Keeps (record { state = state; body = body }) outcome.tag
kept state body outcome known = record { memory = known.memory; locks = known.locks; present = λ is. known.present }

-- ... and one that isn't
absent : (state : StateValue) (body : BodyValue) → Keeps (record { state = state; body = body }) (record { state = state; body = body })
absent state body = record { memory = refl; locks = refl; present = λ is. is }

pub query-keeps : (sel : Sel) (session : ℕ) (target : Side) (q : ℕ) (state : StateValue) (body : BodyValue)
    → Keeps (record { state = state; body = body }) (query sel session target q state body).tag
query-keeps sel session target q state body =
    let known = query-begins sel session target q state body in
    record { memory = known.memory; locks = known.locks; present = λ is. known.present ∙ is }

pub query_rep-keeps : (session : ℕ) (state : StateValue) (body : BodyValue) → Keeps (record { state = state; body = body }) (query_rep session state body).tag
query_rep-keeps session ReadyState body = absent ReadyState body
query_rep-keeps session (ArbitrateState own q slot) body =
    kept (ArbitrateState own q slot) body _
    (either body (own == session) _ _
    (either body (slot_below slot == 0) _ _ (stays body _ refl refl refl) (stays body _ refl refl refl))
    (stays body _ refl refl refl))
query_rep-keeps session (ReplyState own q rn) body =
    kept (ReplyState own q rn) body _ (either body (own == session) _ _ (stays body _ refl refl refl) (stays body _ refl refl refl))
query_rep-keeps session (AcknowledgedState own q rn) body =
    kept (AcknowledgedState own q rn) body _ (either body (own == session) _ _ (stays body _ refl refl refl) (stays body _ refl refl refl))
query_rep-keeps session (OpenState held) body =
    kept (OpenState held) body _ (either body (held.session == session) _ _ (ends-turn session held body) (stays body _ refl refl refl))
query_rep-keeps session (SecuredState held) body =
    kept (SecuredState held) body _ (either body (held.session == session) _ _ (ends-turn session held body) (stays body _ refl refl refl))
query_rep-keeps session KilledState body = absent KilledState body
query_rep-keeps session UnpoweredState body = absent UnpoweredState body

pub query_adjust-keeps : (session : ℕ) (updn : UpDn) (state : StateValue) (body : BodyValue) → Keeps (record { state = state; body = body }) (query_adjust session updn state body).tag
query_adjust-keeps session updn ReadyState body = absent ReadyState body
query_adjust-keeps session updn (ArbitrateState own q slot) body =
    kept (ArbitrateState own q slot) body _ (either body (own == session) _ _ (enters session (q_after_adjust updn q) body) (stays body _ refl refl refl))
query_adjust-keeps session updn (ReplyState own q rn) body =
    kept (ReplyState own q rn) body _ (either body (own == session) _ _ (enters session (q_after_adjust updn q) body) (stays body _ refl refl refl))
query_adjust-keeps session updn (AcknowledgedState own q rn) body =
    kept (AcknowledgedState own q rn) body _ (either body (own == session) _ _ (stays body _ refl refl refl) (stays body _ refl refl refl))
query_adjust-keeps session updn (OpenState held) body =
    kept (OpenState held) body _ (either body (held.session == session) _ _ (ends-turn session held body) (stays body _ refl refl refl))
query_adjust-keeps session updn (SecuredState held) body =
    kept (SecuredState held) body _ (either body (held.session == session) _ _ (ends-turn session held body) (stays body _ refl refl refl))
query_adjust-keeps session updn KilledState body = absent KilledState body
query_adjust-keeps session updn UnpoweredState body = absent UnpoweredState body

pub ack-keeps : (rn : ℕ) (state : StateValue) (body : BodyValue) → Keeps (record { state = state; body = body }) (ack rn state body).tag
ack-keeps rn ReadyState body = absent ReadyState body
ack-keeps rn (ArbitrateState session q slot) body = absent (ArbitrateState session q slot) body
ack-keeps rn (ReplyState session q own) body =
    kept (ReplyState session q own) body _ (either body (own == rn) _ _ (stays body _ refl refl refl) (stays body _ refl refl refl))
ack-keeps rn (AcknowledgedState session q own) body =
    kept (AcknowledgedState session q own) body _ (either body (own == rn) _ _ (stays body _ refl refl refl) (stays body _ refl refl refl))
ack-keeps rn (OpenState held) body =
    kept (OpenState held) body _
    (half body held.half _ _ (stays body _ refl refl refl)
    (either body (held.handle == rn) _ _ (stays body _ refl refl refl) (stays body _ refl refl refl)))
ack-keeps rn (SecuredState held) body =
    kept (SecuredState held) body _
    (half body held.half _ _ (stays body _ refl refl refl)
    (either body (held.handle == rn) _ _ (stays body _ refl refl refl) (stays body _ refl refl refl)))
ack-keeps rn KilledState body = absent KilledState body
ack-keeps rn UnpoweredState body = absent UnpoweredState body

-- one command behind others
pub keeps-on : (before between after : TagValue) → Keeps before between → Keeps between after → Keeps before after
keeps-on before between after first second = record {
  memory = second.memory ∙ first.memory;
  locks = second.locks ∙ first.locks;
  present = λ is. second.present (first.present is);
}
