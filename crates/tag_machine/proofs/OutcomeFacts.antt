-- What is known of each outcome of a step: the tag after it, and what it sends.
use Rattle.std.proofs.Common.{◌≡◌, ℕ, suc, ◌%◌, ◌^◌, ◌<◌, ◌≤◌, ◌==◌, Bool, true, false, Option, Some, None, unwrap_or, if◌then◌else◌, refl, sym, ◌∙◌, ap, subst, arith}
use Rattle.std.proofs.Math.Nat.{one-le-pow, pow-le-pow_right}
use Rattle.std.proofs.lemmas.Nat.{mod_below}
use Rattle.command_grammar.specs.declared.commands.Command.{Command}
use Rattle.command_grammar.specs.Commands.{IsLegalCommand}
use Rattle.reply_grammar.specs.declared.expected.Reply.TheVariants.{Rn16, Error}
use Rattle.tag_machine.specs.declared.states.Half.{Half}
use Rattle.tag_machine.specs.declared.states.Held.{Held}
use Rattle.tag_machine.specs.TagValue.{StateValue, ArbitrateState, BodyValue, IsLegalBody, IsLegalState, IsLegalTag}
use Rattle.tag_machine.specs.Answers.{Sent, Outcome, silent, IsSent}
use Rattle.tag_machine.specs.Draws.{draw_of, body_after_draw, body_after_draws, slot_of_draw, begin_reply, enter, close, back}
use Rattle.tag_machine.specs.Inventory.{unless_half, end_turn}
use Rattle.tag_machine.specs.laws.DrawCounts.{draws_in, draws_to_enter}
use Rattle.tag_machine.specs.laws.Extended.{is_extended}
use Rattle.tag_machine.specs.laws.Isolation.{IsIsolated}
use Rattle.tag_machine.specs.laws.AnswersByCommand.{IsRn16Answer, IsAnswerTo}
use Rattle.tag_machine.proofs.BodyFacts.{IsLegalAt, BodyFacts, MayInvert, same_body, inverted, drawn}

-- what is sent by a tag in a state is the reply to the command, and legal, with the preamble of that reply; an error leaves what
-- the tag holds in every state
pub record SentFacts (command : Command) (state : StateValue) (before after : BodyValue) (sent : Sent) : Type 0 where
  pub fits : IsLegalAt state before → IsAnswerTo command state before sent × IsSent (Some sent)
  pub marked : sent.extended ≡ is_extended command state
  pub refused : (code : ℕ) → sent.reply ≡ Error code → after ≡ before

-- a legal tag stays legal; it is as many draws further as the command lets it make, and keeps its words; those flags alone
-- differ that the command may change
pub record Facts (command : Command) (state : StateValue) (body : BodyValue) (outcome : Outcome) : Type 0 where
  pub legal : IsLegalCommand command → IsLegalAt state body → IsLegalTag outcome.tag
  pub next_draw : outcome.tag.body.next_draw ≡ (body_after_draws (draws_in command state body) body).next_draw
  pub words : outcome.tag.body.words ≡ body.words
  pub isolated : IsIsolated command body.flags outcome.tag.body.flags
  pub sent : (sent : Sent) → outcome.answer ≡ Some sent → SentFacts command state body outcome.tag.body sent

-- the numbers of the state after a command are in their ranges
abbrev Keeps : Command → StateValue → BodyValue → StateValue → Type 0
Keeps command state body after = IsLegalCommand command → IsLegalAt state body → IsLegalState after

-- ... and those of a round
abbrev pub InRange : Command → StateValue → BodyValue → ℕ → ℕ → Type 0
InRange command state body session q = IsLegalCommand command → IsLegalAt state body → (session ≤ 3) × (q ≤ 15)

-- a test, with what it tells
pub either : (P : Outcome → Type 0) (test : Bool) (x y : Outcome) → (test ≡ true → P x) → (test ≡ false → P y) → P (if test then x else y)
either P true x y of_x of_y = of_x refl
either P false x y of_x of_y = of_y refl

pub past_half : (P : Outcome → Type 0) (half : Option Half) (instead outcome : Outcome) → P instead → P outcome → P (unless_half half instead outcome)
past_half P None instead outcome of_instead given = given
past_half P (Some half) instead outcome of_instead given = of_instead

facts_of : {command : Command} {state after_state : StateValue} {before after : BodyValue} {draws : ℕ} (answer : Option Sent) → BodyFacts command state before after draws → draws_in command state before ≡ draws → Keeps command state before after_state → ((sent : Sent) → answer ≡ Some sent → SentFacts command state before after sent) → Facts command state before (record { tag = record { state = after_state; body = after }; answer = answer })
facts_of {command} {state} {after_state} {before} answer of_body draws keeps of_sent = record {
  legal = λ of_command legal. record { state = keeps of_command legal; body = of_body.legal of_command legal };
  next_draw = of_body.next_draw ∙ ap (λ n. (body_after_draws n before).next_draw) (sym draws);
  words = of_body.words;
  isolated = of_body.isolated;
  sent = of_sent;
}

-- no answer
pub silently : {command : Command} {state after_state : StateValue} {before after : BodyValue} {draws : ℕ} → BodyFacts command state before after draws → draws_in command state before ≡ draws → Keeps command state before after_state → Facts command state before (silent after_state after)
silently of_body draws keeps = facts_of None of_body draws keeps (λ sent is. absurd (cc))

-- one answer
pub answering : {command : Command} {state after_state : StateValue} {before after : BodyValue} {draws : ℕ} (only : Sent) → BodyFacts command state before after draws → draws_in command state before ≡ draws → Keeps command state before after_state → SentFacts command state before after only → Facts command state before (record { tag = record { state = after_state; body = after }; answer = Some only })
answering {command} {state} {after_state} {before} {after} only of_body draws keeps given =
    facts_of (Some only) of_body draws keeps (λ sent is. subst (SentFacts command state before after) (ap (λ (o : Option Sent). unwrap_or o only) is) given)

pub stays : {command : Command} {state : StateValue} {body : BodyValue} → draws_in command state body ≡ 0 → Facts command state body (silent state body)
stays {command} {state} {body} draws = silently same_body draws (λ of_command legal. legal.state)

pub goes_back : {command : Command} {state : StateValue} {body : BodyValue} {session q : ℕ} → draws_in command state body ≡ 0 → InRange command state body session q → Facts command state body (back session q body)
goes_back {command} {state} {body} draws in_range =
    silently same_body draws (λ of_command legal. let round = in_range of_command legal in (round.0, round.1, omega arith))

pub closes : {command : Command} {state : StateValue} {body : BodyValue} (session : ℕ) → draws_in command state body ≡ 0 → MayInvert command session → Facts command state body (close session body)
closes session draws may = silently (inverted session may) draws (λ of_command legal. tt)

pub turn_ends : {command : Command} {state : StateValue} {body : BodyValue} (session : ℕ) (held : Held) → draws_in command state body ≡ 0 → MayInvert command session → InRange command state body session held.q → Facts command state body (end_turn session held body)
turn_ends {command} {state} {body} session held draws may in_range =
    past_half (Facts command state body) held.half (back session held.q body) (close session body) (goes_back draws in_range) (closes session draws may)

-- a command of a session leaves a tag of another one
pub of_session : {command : Command} {state : StateValue} {body : BodyValue} (own session : ℕ) (outcome : Outcome) → ((own == session) ≡ true → Facts command state body outcome) → ((own == session) ≡ false → draws_in command state body ≡ 0) → Facts command state body (if own == session then outcome else silent state body)
of_session {command} {state} {body} own session outcome given draws =
    either (Facts command state body) (own == session) outcome (silent state body) given (λ apart. stays (draws apart))

-- the command is answered by this RN16
pub record AnswersRn16 (command : Command) (state : StateValue) (body : BodyValue) (word : ℕ) : Type 0 where
  pub plain : is_extended command state ≡ false
  pub is_answer : (sent : Sent) → IsRn16Answer word sent → IsAnswerTo command state body sent
  pub small : IsLegalBody body → word < 2 ^ 16

pub begun : {command : Command} {state : StateValue} {before after : BodyValue} {draws session q word : ℕ} → BodyFacts command state before after draws → draws_in command state before ≡ suc draws → InRange command state before session q → AnswersRn16 command state before word → draw_of after ≡ word → Facts command state before (begin_reply session q after)
begun {command} {state} {before} {after} {draws} {session} {q} {word} of_body draws_are in_range answers same =
    let rn16 : Sent = record { reply = Rn16 (draw_of after); handle = 0; extended = false } in
    answering rn16 (drawn of_body) draws_are
    (λ of_command legal. let round = in_range of_command legal in (round.0, round.1, rw same (answers.small legal.body)))
    (record {
      fits = λ legal. (answers.is_answer rn16 (record { reply = ap (λ n. Rn16 n) same; plain = refl }), (rw same (answers.small legal.body), omega arith, tt));
      marked = sym answers.plain;
      refused = λ code is. absurd (cc);
    })

slot_small : (word q : ℕ) → q ≤ 15 → word % 2 ^ q < 2 ^ 15
slot_small word q of_q =
    let some : 1 ≤ 2 ^ q = one-le-pow q 2 (omega arith) in
    let below : word % 2 ^ q < 2 ^ q = mod_below word (2 ^ q) some in
    let grows : 2 ^ q ≤ 2 ^ 15 = pow-le-pow_right (omega arith) of_q in
    omega (arith, below, grows)

-- ENTER of a body that differs at most in what isn't drawn
pub entered : {command : Command} {state : StateValue} {before after : BodyValue} (session q : ℕ) → BodyFacts command state before after 0 → draws_in command state before ≡ draws_to_enter q after → InRange command state before session q → AnswersRn16 command state before (draw_of (body_after_draw before)) → Facts command state before (enter session q after)
entered {command} {state} {before} {after} session q of_body draws in_range answers =
    let same : draw_of (body_after_draw after) ≡ draw_of (body_after_draw before) = cc (of_body.words, of_body.next_draw) in
    either (Facts command state before) (slot_of_draw q after == 0) (begin_reply session q (body_after_draw after)) (silent (ArbitrateState session q (slot_of_draw q after)) (body_after_draw after))
    (λ now.
    let two : draws_to_enter q after ≡ 2 = rw now refl in
    begun (drawn of_body) (draws ∙ two) in_range answers same)
    (λ later.
    let one : draws_to_enter q after ≡ 1 = rw later refl in
    silently (drawn of_body) (draws ∙ one)
    (λ of_command legal. let round = in_range of_command legal in (round.0, round.1, slot_small (draw_of after) q round.1)))
