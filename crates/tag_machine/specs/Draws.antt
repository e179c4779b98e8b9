-- 6.3.2.5 Tag random or pseudo-random number generator; 6.3.2.4.8 Slot counter: the moves that the tables of Annex B share,
-- with what they draw.
use Rattle.std.specs.Prelude.{ℕ, zero, suc, ◌==◌, if◌then◌else◌}
use Rattle.reply_grammar.specs.declared.expected.Reply.TheVariants.{Rn16}
use Rattle.tag_machine.specs.TagValue.{StateValue, ReadyState, ArbitrateState, ReplyState, AcknowledgedState, OpenState, SecuredState, KilledState, UnpoweredState, BodyValue, TagValue}
use Rattle.tag_machine.specs.Answers.{Outcome, silent, plain_answer}
pub use Rattle.tag_body.specs.Draws.{draw_of, place_behind, place_after, body_after_draw, slot_of_draw}
pub use Rattle.tag_body.specs.BodyFlags.{body_after_inversion}

-- the body after so many draws
abbrev pub body_after_draws : ℕ → BodyValue → BodyValue
body_after_draws zero body = body
body_after_draws (suc draws) body = body_after_draw (body_after_draws draws body)

-- an RN16 is drawn and answered, and the tag is in reply
abbrev pub begin_reply : ℕ → ℕ → BodyValue → Outcome
begin_reply session q body = plain_answer (ReplyState session q (draw_of body)) (body_after_draw body) (Rn16 (draw_of body)) 0

-- ENTER: a slot is drawn, the last Q bits of the draw. With slot 0 the tag replies at once, with a further draw.
abbrev pub enter : ℕ → ℕ → BodyValue → Outcome
enter session q body =
    (if slot_of_draw q body == 0
    then begin_reply session q (body_after_draw body)
    else silent (ArbitrateState session q (slot_of_draw q body)) (body_after_draw body))

-- CLOSE: the tag was inventoried, so that its flag of the session is inverted, and it is ready
abbrev pub close : ℕ → BodyValue → Outcome
close session body = silent ReadyState (body_after_inversion session body)

-- BACK: the tag is in arbitrate with slot 0
abbrev pub tag_back : ℕ → ℕ → BodyValue → TagValue
tag_back session q body = record { state = ArbitrateState session q 0; body = body }

-- BACK, without a reply
abbrev pub back : ℕ → ℕ → BodyValue → Outcome
back session q body = silent (ArbitrateState session q 0) body

-- BACK of a tag, with the session and Q that its state holds
abbrev pub tag_gone_back : StateValue → BodyValue → TagValue
tag_gone_back ReadyState body = record { state = ReadyState; body = body }
tag_gone_back (ArbitrateState session q slot) body = tag_back session q body
tag_gone_back (ReplyState session q rn) body = tag_back session q body
tag_gone_back (AcknowledgedState session q rn) body = tag_back session q body
tag_gone_back (OpenState held) body = tag_back held.session held.q body
tag_gone_back (SecuredState held) body = tag_back held.session held.q body
tag_gone_back KilledState body = record { state = KilledState; body = body }
tag_gone_back UnpoweredState body = record { state = UnpoweredState; body = body }
