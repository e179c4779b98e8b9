-- What becomes of a tag between the slot commands of a round: nothing, or an ACK.
use Rattle.runs.proofs.Names.{◌≡◌, ◌≢◌, ℕ, ◌==◌, Bool, true, false, Some, None, if◌then◌else◌, refl, inl, inr, SlotOutcome, Silence, Whole, plain_answer, back, epc_reply, ack, step, StateValue}
use Rattle.runs.proofs.Names.{ReadyState, ArbitrateState, ReplyState, AcknowledgedState, KilledState, UnpoweredState, BodyValue, TagValue, is_matched, IsAfterSlot, IsBeforeSlot, slot_answer_of}
use Rattle.runs.proofs.Names.{is_acknowledged_by}
use Rattle.command_grammar.specs.declared.commands.Command.TheVariants as commands
use Rattle.tag_machine.specs.Answers.{Outcome}
use Rattle.runs.proofs.Members.{Frame, StandsAfter, StandsBefore}

-- no ACK is sent
left-alone : (on : Frame) (outcome : SlotOutcome) (matched listed : Bool) (state : StateValue) → (outcome ≡ Silence → slot_answer_of state ≡ None)
    → IsAfterSlot on.session on.q on.slots matched listed state → IsBeforeSlot on.session on.q outcome on.slots matched listed false state
left-alone on outcome matched listed ReadyState heard is = record { earlier = is; not_now = refl }
left-alone on outcome matched listed (ArbitrateState own own_q slot) heard is = record { unlisted = is.unlisted; not_now = refl; counter = inl is.counter }
left-alone on outcome matched listed (ReplyState own own_q rn) heard is = record { unlisted = is; not_now = refl; heard = λ e. let none = heard e in absurd (cc) }
left-alone on outcome matched listed KilledState heard is = (is, refl)
left-alone on outcome matched listed UnpoweredState heard is = (is, refl)
left-alone on outcome matched listed state heard is = absurd is

-- Where no ACK is sent in a slot, in which no tag answers silently, a tag stands before the next slot command as it stood after this one.
pub unacknowledged-stands : (on : Frame) (outcome : SlotOutcome) (first : TagValue) (listed : Bool) (tag : TagValue)
    → (outcome ≡ Silence → slot_answer_of tag.state ≡ None) → StandsAfter on first listed tag
    → StandsBefore on outcome (record { first = first; listed = listed; listed_now = false }) tag
unacknowledged-stands on outcome first listed tag heard stands = record {
  state = left-alone on outcome (is_matched first.state) listed tag.state heard stands.state;
  body = stands.body;
}

-- What is known of what an ACK makes of a tag, which is listed by it or not. The body is that before it.
record GoesBetween (on : Frame) (outcome : SlotOutcome) (matched listed listed_now : Bool) (before : BodyValue) (after : Outcome) : Type 0 where
  state : IsBeforeSlot on.session on.q outcome on.slots matched listed listed_now after.tag.state
  body : after.tag.body ≡ before
  answer : after.answer ≡ (if listed_now then Some (record { reply = epc_reply before; handle = 0; extended = false }) else None)

either-way : (P : Bool → Type 0) (test : Bool) → P true → P false → P test
either-way P true first second = first
either-way P false first second = second

ack-goes : (on : Frame) (outcome : SlotOutcome) (matched listed : Bool) (rn : ℕ) (state : StateValue) (body : BodyValue) → outcome ≢ Silence
    → IsAfterSlot on.session on.q on.slots matched listed state → GoesBetween on outcome matched listed (is_acknowledged_by rn state) body (ack rn state body)
ack-goes on outcome matched listed rn ReadyState body heard is = record { state = record { earlier = is; not_now = refl }; body = refl; answer = refl }
ack-goes on outcome matched listed rn (ArbitrateState own own_q slot) body heard is =
    record { state = record { unlisted = is.unlisted; not_now = refl; counter = inl is.counter }; body = refl; answer = refl }
-- the ACK carries its number or another one
ack-goes on outcome matched listed rn (ReplyState own own_q own_rn) body heard is =
    either-way
    (λ test. GoesBetween on outcome matched listed test body (if test then plain_answer (AcknowledgedState own own_q own_rn) body (epc_reply body) 0 else back own own_q body))
    (own_rn == rn)
    (record { state = record { unlisted = is; now = refl; heard = heard }; body = refl; answer = refl })
    (record { state = record { unlisted = is; not_now = refl; counter = inr (refl, heard) }; body = refl; answer = refl })
ack-goes on outcome matched listed rn KilledState body heard is = record { state = (is, refl); body = refl; answer = refl }
ack-goes on outcome matched listed rn UnpoweredState body heard is = record { state = (is, refl); body = refl; answer = refl }
ack-goes on outcome matched listed rn state body heard is = absurd is

-- An ACK lists the tag that is in reply with its number. It takes each other tag in reply to arbitrate with slot 0, and leaves all others as
-- they are.
pub ack-stands : (on : Frame) (outcome : SlotOutcome) (first : TagValue) (listed : Bool) (rn : ℕ) (tag : TagValue) → outcome ≢ Silence → StandsAfter on first listed tag
    → StandsBefore on outcome (record { first = first; listed = listed; listed_now = is_acknowledged_by rn tag.state }) (step (commands.Ack rn) tag.state tag.body).tag
ack-stands on outcome first listed rn tag heard stands =
    let known = ack-goes on outcome (is_matched first.state) listed rn tag.state tag.body heard stands.state in
    record { state = known.state; body = rw known.body stands.body }

-- The tag that it lists answers with its PC and EPC, and no other tag answers.
pub ack-answer : (on : Frame) (first : TagValue) (listed : Bool) (rn : ℕ) (tag : TagValue) → StandsAfter on first listed tag
    → (step (commands.Ack rn) tag.state tag.body).answer ≡ (if is_acknowledged_by rn tag.state then Some (record { reply = epc_reply tag.body; handle = 0; extended = false }) else None)
ack-answer on first listed rn tag stands =
    (ack-goes on Whole (is_matched first.state) listed rn tag.state tag.body (λ e. absurd (cc)) stands.state).answer

-- It changes no flag, no memory and no lock.
pub ack-body : (on : Frame) (first : TagValue) (listed : Bool) (rn : ℕ) (tag : TagValue) → StandsAfter on first listed tag
    → (step (commands.Ack rn) tag.state tag.body).tag.body ≡ tag.body
ack-body on first listed rn tag stands =
    (ack-goes on Whole (is_matched first.state) listed rn tag.state tag.body (λ e. absurd (cc)) stands.state).body
