-- What each command of a round makes of a tag that stands in the round.
use Rattle.runs.proofs.Names.{◌≡◌, ◌≢◌, ℕ, ◌-◌, ◌^◌, ◌<◌, ◌≤◌, ◌==◌, ◌||◌, Bool, true, false, List, [], ◌∷◌, length, None, if◌then◌else◌, refl, ap, sym, ◌∙◌, subst, inl, inr, eq-eqb, arith}
use Rattle.runs.proofs.Names.{pow-le-pow_right, or-false, or-true, ne_eqb, length-append, mod_below, pow_pos, UpDn, Up, Same, Down, Command, Flags, SlotOutcome, IsNextSlot, IsMoved, silent, draw_of}
use Rattle.runs.proofs.Names.{body_after_draw, begin_reply, slot_of_draw, enter, close, back, slot_below, count_down, query_rep, q_after_adjust, query_adjust, step, StateValue, ReadyState}
use Rattle.runs.proofs.Names.{ArbitrateState, ReplyState, AcknowledgedState, KilledState, UnpoweredState, BodyValue, TagValue, is_matched, IsToCome, HasAnswered, IsCounter, IsUnlisted, IsAfterSlot}
use Rattle.runs.proofs.Names.{IsCounterBefore, flags_in_round, KeepsBody, slot_answer_of}
use Rattle.command_grammar.specs.declared.commands.Command.TheVariants as commands
use Rattle.tag_machine.specs.Answers.{Outcome}
use Rattle.runs.proofs.Members.{Frame, Member, MayStand, StandsAfter, StandsBefore}

-- a slot of the frame ends so, and behind it the round goes on with this Q and frame
pub record Turn (on : Frame) : Type 0 where
  pub outcome : SlotOutcome
  pub next_q : ℕ
  pub next_slots : List SlotOutcome
  pub small : on.q ≤ 15
  pub next_small : next_q ≤ 15

-- What is known of what a slot command makes of a tag that wasn't listed before it, or was. The flags are those before it.
record GoesOn (on : Frame) (first : TagValue) (listed listed_now : Bool) (before : Flags) (outcome : Outcome) : Type 0 where
  state : IsAfterSlot on.session on.q on.slots (is_matched first.state) listed outcome.tag.state
  body : KeepsBody on.session listed first.body outcome.tag.body
  answer : outcome.answer ≡ slot_answer_of outcome.tag.state
  flags : outcome.tag.body.flags ≡ flags_in_round on.session listed_now before

-- a choice between two outcomes
choose : (P : Outcome → Type 0) (test : Bool) (x y : Outcome) → (test ≡ true → P x) → (test ≡ false → P y) → P (if test then x else y)
choose P true x y p q = p refl
choose P false x y p q = q refl

-- what comes of a command of the tag's own session
same_session : (P : Outcome → Type 0) (own session : ℕ) (x y : Outcome) → own ≡ session → P x → P (if own == session then x else y)
same_session P own session x y same p =
    choose P (own == session) x y (λ is. p) (λ other. absurd (let is = eq-eqb own session same in cc))

-- 6.3.2.4.8 Slot counter
below : (slot : ℕ) → 1 ≤ slot → slot_below slot ≡ slot - 1
below slot some = rw (ne_eqb slot 0 (λ e. absurd (omega arith)))

few_slots : (q slots : ℕ) → q ≤ 15 → slots < 2 ^ q → slots < 0x8000
few_slots q slots small room = omega (arith, pow-le-pow_right {n = 2} (omega arith) small)

-- a counter that isn't 0 behind a QueryRep is one of the next slot
answered-next : (q : ℕ) (outcome : SlotOutcome) (frame : List SlotOutcome) (slot : ℕ) → q ≤ 15 → length (outcome ∷ frame) < 2 ^ q
    → HasAnswered frame slot → HasAnswered (outcome ∷ frame) (slot_below slot)
answered-next q outcome frame slot small room a =
    let few = few_slots q (length (outcome ∷ frame)) small room in
    let parts = ap length a.in_frame ∙ length-append a.later (a.outcome ∷ a.earlier) in
    let some : 1 ≤ slot = omega (arith, a.counter) in
    record {
      later = outcome ∷ a.later;
      outcome = a.outcome;
      earlier = a.earlier;
      in_frame = ap (λ (l : List SlotOutcome). outcome ∷ l) a.in_frame;
      heard = a.heard;
      counter = rw (below slot some) (omega (arith, a.counter));
    }

counter-next : (q : ℕ) (outcome : SlotOutcome) (frame : List SlotOutcome) (slot : ℕ) → q ≤ 15 → length (outcome ∷ frame) < 2 ^ q
    → IsCounterBefore q outcome frame slot → slot_below slot ≢ 0 → IsCounter q (outcome ∷ frame) (slot_below slot)
counter-next q outcome frame slot small room (inl (inl c)) later =
    let least = c.least in
    let most = c.most in
    let e = below slot least in
    inl (record { least = omega arith; most = rw e (omega arith) })
counter-next q outcome frame slot small room (inl (inr a)) later = inr (answered-next q outcome frame slot small room a)
counter-next q outcome frame slot small room (inr back) later = inr (record {
  later = [];
  outcome = outcome;
  earlier = frame;
  in_frame = refl;
  heard = back.1;
  counter = rw back.0 refl;
})

-- The parts of GoesOn, by what the tag does.

-- it waits, or takes no part, and is silent
stays : (on : Frame) (first : TagValue) (listed : Bool) (state : StateValue) (body : BodyValue)
    → slot_answer_of state ≡ None → IsAfterSlot on.session on.q on.slots (is_matched first.state) listed state → KeepsBody on.session listed first.body body
    → GoesOn on first listed false body.flags (silent state body)
stays on first listed state body none is kept = record { state = is; body = kept; answer = sym none; flags = refl }

-- it answers with a new RN16
replies : (on : Frame) (first : TagValue) (listed : Bool) (own_q : ℕ) (body : BodyValue)
    → IsUnlisted on.session on.q (is_matched first.state) listed on.session own_q → KeepsBody on.session listed first.body body
    → GoesOn on first listed false body.flags (begin_reply on.session own_q body)
replies on first listed own_q body is kept =
    record { state = is; body = record { flags = kept.flags; memory = kept.memory; locks = kept.locks }; answer = refl; flags = refl }

-- it draws a slot of a frame that begins
pub slot_drawn : (q : ℕ) (body : BodyValue) → slot_of_draw q body ≢ 0 → IsToCome q [] (slot_of_draw q body)
slot_drawn q body some = let drawn = mod_below (draw_of body) (2 ^ q) (pow_pos q) in record { least = omega arith; most = omega arith }

abbrev begun : ℕ → ℕ → Frame
begun session q = record { session = session; q = q; slots = [] }

enters : (session q : ℕ) (first : TagValue) (listed : Bool) (body : BodyValue)
    → IsUnlisted session q (is_matched first.state) listed session q → KeepsBody session listed first.body body
    → GoesOn (begun session q) first listed false body.flags (enter session q body)
enters session q first listed body is kept =
    let after = body_after_draw body in
    let kept_after : KeepsBody session listed first.body after = record { flags = kept.flags; memory = kept.memory; locks = kept.locks } in
    choose (λ outcome. GoesOn (begun session q) first listed false body.flags outcome) (slot_of_draw q body == 0)
    (begin_reply session q after) (silent (ArbitrateState session q (slot_of_draw q body)) after)
    (λ now. replies (begun session q) first listed q after is kept_after)
    (λ later. stays (begun session q) first listed (ArbitrateState session q (slot_of_draw q body)) after refl
    (record { unlisted = is; counter = inl (slot_drawn q body (λ e. let is = eq-eqb (slot_of_draw q body) 0 e in cc)) }) kept_after)

-- it was listed in the slot before, and does CLOSE
closes : (on : Frame) (first : TagValue) (listed : Bool) (body : BodyValue) → is_matched first.state ≡ true → listed ≡ false → KeepsBody on.session listed first.body body
    → GoesOn on first true true body.flags (close on.session body)
closes on first listed body takes_part new kept = record {
  state = sym takes_part;
  body = record {
    flags = ap (λ (flags : Flags). flags_in_round on.session true flags) (kept.flags ∙ ap (λ (b : Bool). flags_in_round on.session b first.body.flags) new);
    memory = kept.memory;
    locks = kept.locks;
  };
  answer = refl;
  flags = refl;
}

-- a tag that wasn't listed in this slot
not_listed_now : (on : Frame) (of : Member) (before : Flags) (outcome : Outcome) → of.listed_now ≡ false → GoesOn on of.first of.listed false before outcome
    → GoesOn on of.first (of.listed || of.listed_now) of.listed_now before outcome
not_listed_now on of before outcome none known =
    subst (λ (b : Bool). GoesOn on of.first (of.listed || b) b before outcome) (sym none)
    (subst (λ (b : Bool). GoesOn on of.first b false before outcome) (sym (or-false of.listed)) known)

-- a tag that is ready or takes no part is silent
rests : (next : Frame) (of : Member) (state : StateValue) (body : BodyValue) → slot_answer_of state ≡ None → of.listed_now ≡ false
    → IsAfterSlot next.session next.q next.slots (is_matched of.first.state) of.listed state → KeepsBody next.session of.listed of.first.body body
    → GoesOn next of.first (of.listed || of.listed_now) of.listed_now body.flags (silent state body)
rests next of state body silent_then not_now is kept =
    not_listed_now next of body.flags (silent state body) not_now (stays next of.first of.listed state body silent_then is kept)

-- ... and one that was
listed_then : (on : Frame) (of : Member) (before : Flags) (outcome : Outcome) → of.listed_now ≡ true → GoesOn on of.first true true before outcome
    → GoesOn on of.first (of.listed || of.listed_now) of.listed_now before outcome
listed_then on of before outcome now known =
    subst (λ (b : Bool). GoesOn on of.first (of.listed || b) b before outcome) (sym now)
    (subst (λ (b : Bool). GoesOn on of.first b true before outcome) (sym (or-true of.listed)) known)

-- a command of the session finds the session in the tag
of_round : (session q : ℕ) (matched listed : Bool) (own own_q : ℕ) → IsUnlisted session q matched listed own own_q → IsUnlisted session q matched listed session own_q
of_round session q matched listed own own_q is = record { session_is = refl; q_is = is.q_is; takes_part = is.takes_part; not_listed = is.not_listed }

-- the frame with the slot that ends
abbrev frame_with : Frame → SlotOutcome → Frame
frame_with on outcome = record { session = on.session; q = on.q; slots = outcome ∷ on.slots }

-- 6.3.2.11.2.3 QueryRep: a tag in arbitrate, in the frame with the slot that ended
counts_down : (next : Frame) (of : Member) (own_q slot : ℕ) (body : BodyValue)
    → IsUnlisted next.session next.q (is_matched of.first.state) of.listed next.session own_q
    → (slot_below slot ≢ 0 → IsCounter next.q next.slots (slot_below slot)) → KeepsBody next.session of.listed of.first.body body
    → GoesOn next of.first of.listed false body.flags (count_down next.session own_q slot body)
counts_down next of own_q slot body its counter kept =
    choose (λ after. GoesOn next of.first of.listed false body.flags after) (slot_below slot == 0)
    (begin_reply next.session own_q body) (silent (ArbitrateState next.session own_q (slot_below slot)) body)
    (λ now. replies next of.first of.listed own_q body its kept)
    (λ later. stays next of.first of.listed (ArbitrateState next.session own_q (slot_below slot)) body refl
    (record { unlisted = its; counter = counter (λ e. let is = eq-eqb (slot_below slot) 0 e in cc) }) kept)

rep-goes : (on : Frame) (by : Turn on) (of : Member) (state : StateValue) (body : BodyValue) → length (by.outcome ∷ on.slots) < 2 ^ on.q
    → MayStand on by.outcome of state → KeepsBody on.session of.listed of.first.body body
    → GoesOn (frame_with on by.outcome) of.first (of.listed || of.listed_now) of.listed_now body.flags (query_rep on.session state body)
rep-goes on by of ReadyState body room is kept = rests (frame_with on by.outcome) of ReadyState body refl is.not_now is.earlier kept
rep-goes on by of (ArbitrateState own own_q slot) body room is kept =
    let next = frame_with on by.outcome in
    same_session (λ after. GoesOn next of.first (of.listed || of.listed_now) of.listed_now body.flags after) own on.session
    (count_down on.session own_q slot body) (silent (ArbitrateState own own_q slot) body) is.unlisted.session_is
    (not_listed_now next of body.flags (count_down on.session own_q slot body) is.not_now
    (counts_down next of own_q slot body (of_round on.session on.q (is_matched of.first.state) of.listed own own_q is.unlisted)
    (counter-next on.q by.outcome on.slots slot by.small room is.counter) kept))
rep-goes on by of (ReplyState own own_q rn) body room is kept =
    let next = frame_with on by.outcome in
    let state = ArbitrateState on.session own_q 0x7FFF in
    same_session (λ after. GoesOn next of.first (of.listed || of.listed_now) of.listed_now body.flags after) own on.session
    (silent state body) (silent (ReplyState own own_q rn) body) is.unlisted.session_is
    (not_listed_now next of body.flags (silent state body) is.not_now
    (stays next of.first of.listed state body refl (record {
      unlisted = of_round on.session on.q (is_matched of.first.state) of.listed own own_q is.unlisted;
      counter = inr (record { later = []; outcome = by.outcome; earlier = on.slots; in_frame = refl; heard = is.heard; counter = refl });
    }) kept))
rep-goes on by of (AcknowledgedState own own_q rn) body room is kept =
    let next = frame_with on by.outcome in
    same_session (λ after. GoesOn next of.first (of.listed || of.listed_now) of.listed_now body.flags after) own on.session
    (close on.session body) (silent (AcknowledgedState own own_q rn) body) is.unlisted.session_is
    (listed_then next of body.flags (close on.session body) is.now
    (closes next of.first of.listed body is.unlisted.takes_part is.unlisted.not_listed kept))
rep-goes on by of KilledState body room is kept = rests (frame_with on by.outcome) of KilledState body refl is.1 is.0 kept
rep-goes on by of UnpoweredState body room is kept = rests (frame_with on by.outcome) of UnpoweredState body refl is.1 is.0 kept
rep-goes on by of state body room is kept = absurd is

-- 6.3.2.11.2.2 QueryAdjust: the tag moves its Q as the interrogator does
moved : (updn : UpDn) (q next_q : ℕ) → q ≤ 15 → next_q ≤ 15 → IsMoved updn q next_q → q_after_adjust updn q ≡ next_q
moved Up q next_q small next_small is = rw (ne_eqb q 15 (λ e. absurd (omega arith))) (sym is)
moved Same q next_q small next_small is = sym is
moved Down q next_q small next_small is = rw (ne_eqb q 0 (λ e. absurd (omega arith))) (omega arith)

adjust-enters : (on : Frame) (by : Turn on) (of : Member) (updn : UpDn) (own_q : ℕ) (body : BodyValue) → IsMoved updn on.q by.next_q
    → IsUnlisted on.session on.q (is_matched of.first.state) of.listed on.session own_q → KeepsBody on.session of.listed of.first.body body
    → GoesOn (begun on.session by.next_q) of.first of.listed false body.flags (enter on.session (q_after_adjust updn own_q) body)
adjust-enters on by of updn own_q body moves is kept =
    let q_is = ap (λ (n : ℕ). q_after_adjust updn n) is.q_is ∙ moved updn on.q by.next_q by.small by.next_small moves in
    subst (λ (n : ℕ). GoesOn (begun on.session by.next_q) of.first of.listed false body.flags (enter on.session n body)) (sym q_is)
    (enters on.session by.next_q of.first of.listed body (record { session_is = refl; q_is = refl; takes_part = is.takes_part; not_listed = is.not_listed }) kept)

adjust-goes : (on : Frame) (by : Turn on) (of : Member) (updn : UpDn) (state : StateValue) (body : BodyValue) → IsMoved updn on.q by.next_q
    → MayStand on by.outcome of state → KeepsBody on.session of.listed of.first.body body
    → GoesOn (begun on.session by.next_q) of.first (of.listed || of.listed_now) of.listed_now body.flags (query_adjust on.session updn state body)
adjust-goes on by of updn ReadyState body moves is kept = rests (begun on.session by.next_q) of ReadyState body refl is.not_now is.earlier kept
adjust-goes on by of updn (ArbitrateState own own_q slot) body moves is kept =
    let next = begun on.session by.next_q in
    let entered = enter on.session (q_after_adjust updn own_q) body in
    same_session (λ after. GoesOn next of.first (of.listed || of.listed_now) of.listed_now body.flags after) own on.session
    entered (silent (ArbitrateState own own_q slot) body) is.unlisted.session_is
    (not_listed_now next of body.flags entered is.not_now
    (adjust-enters on by of updn own_q body moves (of_round on.session on.q (is_matched of.first.state) of.listed own own_q is.unlisted) kept))
adjust-goes on by of updn (ReplyState own own_q rn) body moves is kept =
    let next = begun on.session by.next_q in
    let entered = enter on.session (q_after_adjust updn own_q) body in
    same_session (λ after. GoesOn next of.first (of.listed || of.listed_now) of.listed_now body.flags after) own on.session
    entered (silent (ReplyState own own_q rn) body) is.unlisted.session_is
    (not_listed_now next of body.flags entered is.not_now
    (adjust-enters on by of updn own_q body moves (of_round on.session on.q (is_matched of.first.state) of.listed own own_q is.unlisted) kept))
adjust-goes on by of updn (AcknowledgedState own own_q rn) body moves is kept =
    let next = begun on.session by.next_q in
    same_session (λ after. GoesOn next of.first (of.listed || of.listed_now) of.listed_now body.flags after) own on.session
    (close on.session body) (silent (AcknowledgedState own own_q rn) body) is.unlisted.session_is
    (listed_then next of body.flags (close on.session body) is.now
    (closes next of.first of.listed body is.unlisted.takes_part is.unlisted.not_listed kept))
adjust-goes on by of updn KilledState body moves is kept = rests (begun on.session by.next_q) of KilledState body refl is.1 is.0 kept
adjust-goes on by of updn UnpoweredState body moves is kept = rests (begun on.session by.next_q) of UnpoweredState body refl is.1 is.0 kept
adjust-goes on by of updn state body moves is kept = absurd is

-- the frame that goes on behind the slot
abbrev pub next_frame : (on : Frame) → Turn on → Frame
next_frame on by = record { session = on.session; q = by.next_q; slots = by.next_slots }

-- the command goes on with the round behind the slot
abbrev pub GoesBy : (on : Frame) → Turn on → Command → Type 0
GoesBy on by command = IsNextSlot command on.session on.q (by.outcome ∷ on.slots) by.next_q by.next_slots

-- the slot command behind an outcome
slot-goes : (on : Frame) (by : Turn on) (of : Member) (command : Command) (tag : TagValue) → GoesBy on by command → StandsBefore on by.outcome of tag
    → GoesOn (next_frame on by) of.first (of.listed || of.listed_now) of.listed_now tag.body.flags (step command tag.state tag.body)
slot-goes on by of (commands.QueryRep own) tag next stands =
    rw (next.session_is, next.q_is, next.frame_is) (rep-goes on by of tag.state tag.body next.room stands.state stands.body)
slot-goes on by of (commands.QueryAdjust own updn) tag next stands =
    rw (next.session_is, next.frame_is) (adjust-goes on by of updn tag.state tag.body next.q_moves stands.state stands.body)
slot-goes on by of command tag next stands = absurd next

-- A tag that stands just before a slot command stands in the next slot after it.
pub slot-stands : (on : Frame) (by : Turn on) (of : Member) (command : Command) (tag : TagValue) → GoesBy on by command → StandsBefore on by.outcome of tag
    → StandsAfter (next_frame on by) of.first (of.listed || of.listed_now) (step command tag.state tag.body).tag
slot-stands on by of command tag next stands =
    let known = slot-goes on by of command tag next stands in record { state = known.state; body = known.body }

-- It answers exactly where it is in reply after it, with the RN16 that it then holds.
pub slot-answer : (on : Frame) (by : Turn on) (of : Member) (command : Command) (tag : TagValue) → GoesBy on by command → StandsBefore on by.outcome of tag
    → (step command tag.state tag.body).answer ≡ slot_answer_of (step command tag.state tag.body).tag.state
slot-answer on by of command tag next stands = (slot-goes on by of command tag next stands).answer

-- Its flag of the session is inverted exactly where it was listed in the slot before, and no other flag changes.
pub slot-flags : (on : Frame) (by : Turn on) (of : Member) (command : Command) (tag : TagValue) → GoesBy on by command → StandsBefore on by.outcome of tag
    → (step command tag.state tag.body).tag.body.flags ≡ flags_in_round on.session of.listed_now tag.body.flags
slot-flags on by of command tag next stands = (slot-goes on by of command tag next stands).flags
