-- What the Query that begins a round makes of a tag, whatever the tag was before.
use Rattle.runs.proofs.Names.{◌≡◌, ◌≢◌, ℕ, ◌==◌, ◌&&◌, Bool, true, false, [], if◌then◌else◌, refl, ap, ◌∙◌, inl, eq-eqb, Code, Sel, Side, Flags, matches, flags_after_inversion, silent}
use Rattle.runs.proofs.Names.{body_after_draw, begin_reply, slot_of_draw, enter, body_after_inversion, take_part, body_after_close, step, StateValue, ReadyState, ArbitrateState, ReplyState}
use Rattle.runs.proofs.Names.{AcknowledgedState, OpenState, SecuredState, BodyValue, TagValue, is_present, is_matched, IsAfterSlot, flags_closed, flags_behind_query, StandsAfterSlot, slot_answer_of}
use Rattle.command_grammar.specs.declared.commands.Command.TheVariants as commands
use Rattle.tag_machine.specs.Answers.{Outcome}
use Rattle.tag_machine.specs.Inventory.{query}
use Rattle.runs.proofs.TagSteps.{slot_drawn}

-- What is known of what the Query makes of a tag that is present or not, and takes part or doesn't. The flags are those behind the
-- Query, and the body is that before it.
pub record Begins (session q : ℕ) (there takes_part : Bool) (flags : Flags) (before : BodyValue) (outcome : Outcome) : Type 0 where
  pub state : IsAfterSlot session q [] (is_matched outcome.tag.state) false outcome.tag.state
  pub answer : outcome.answer ≡ slot_answer_of outcome.tag.state
  pub matched : is_matched outcome.tag.state ≡ takes_part
  pub present : is_present outcome.tag.state ≡ there
  pub flags_are : outcome.tag.body.flags ≡ flags
  pub memory : outcome.tag.body.memory ≡ before.memory
  pub locks : outcome.tag.body.locks ≡ before.locks

-- a slot is drawn
drawn : (session q : ℕ) (body after : BodyValue) (test : Bool) → (test ≡ false → slot_of_draw q body ≢ 0) → after.flags ≡ body.flags → after.memory ≡ body.memory → after.locks ≡ body.locks
    → Begins session q true true body.flags body (if test then begin_reply session q after else silent (ArbitrateState session q (slot_of_draw q body)) after)
drawn session q body after true some flags memory locks = record {
  state = record { session_is = refl; q_is = refl; takes_part = refl; not_listed = refl };
  answer = refl;
  matched = refl;
  present = refl;
  flags_are = flags;
  memory = memory;
  locks = locks;
}
drawn session q body after false some flags memory locks = record {
  state = record { unlisted = record { session_is = refl; q_is = refl; takes_part = refl; not_listed = refl }; counter = inl (slot_drawn q body (some refl)) };
  answer = refl;
  matched = refl;
  present = refl;
  flags_are = flags;
  memory = memory;
  locks = locks;
}

entered : (session q : ℕ) (body : BodyValue) → Begins session q true true body.flags body (enter session q body)
entered session q body = drawn session q body (body_after_draw body) (slot_of_draw q body == 0) (λ is e. let is_zero = eq-eqb (slot_of_draw q body) 0 e in cc) refl refl refl

took_part : (session q : ℕ) (body : BodyValue) (test : Bool) → Begins session q true test body.flags body (if test then enter session q body else silent ReadyState body)
took_part session q body true = entered session q body
took_part session q body false = record { state = refl; answer = refl; matched = refl; present = refl; flags_are = refl; memory = refl; locks = refl }

-- a tag that was inventoried in a session
closed_flags : (session : ℕ) (body : BodyValue) (test : Bool)
    → (if test then body_after_inversion session body else body).flags ≡ (if test then flags_after_inversion body.flags session else body.flags)
closed_flags session body true = refl
closed_flags session body false = refl

closed_kept : (session : ℕ) (body : BodyValue) (test : Bool)
    → let after = if test then body_after_inversion session body else body in (after.memory ≡ body.memory) × (after.locks ≡ body.locks)
closed_kept session body true = (refl, refl)
closed_kept session body false = (refl, refl)

closed-begins : (sel : Sel) (session : ℕ) (target : Side) (q own : ℕ) (body : BodyValue)
    → Begins session q true (matches sel session target (flags_closed own session body.flags)) (flags_closed own session body.flags) body (take_part sel session target q (body_after_close own session body))
closed-begins sel session target q own body =
    let after = body_after_close own session body in
    let flags : after.flags ≡ flags_closed own session body.flags = closed_flags session body (own == session) in
    let known = took_part session q after (matches sel session target after.flags) in
    record {
      state = known.state;
      answer = known.answer;
      matched = known.matched ∙ ap (λ (f : Flags). matches sel session target f) flags;
      present = known.present;
      flags_are = known.flags_are ∙ flags;
      memory = known.memory ∙ (closed_kept session body (own == session)).0;
      locks = known.locks ∙ (closed_kept session body (own == session)).1;
    }

pub query-begins : (sel : Sel) (session : ℕ) (target : Side) (q : ℕ) (state : StateValue) (body : BodyValue)
    → Begins session q (is_present state) (is_present state && matches sel session target (flags_behind_query session state body.flags)) (flags_behind_query session state body.flags) body (query sel session target q state body)
query-begins sel session target q ReadyState body = took_part session q body (matches sel session target body.flags)
query-begins sel session target q (ArbitrateState own own_q slot) body = took_part session q body (matches sel session target body.flags)
query-begins sel session target q (ReplyState own own_q rn) body = took_part session q body (matches sel session target body.flags)
query-begins sel session target q (AcknowledgedState own own_q rn) body = closed-begins sel session target q own body
query-begins sel session target q (OpenState held) body = closed-begins sel session target q held.session body
query-begins sel session target q (SecuredState held) body = closed-begins sel session target q held.session body
query-begins sel session target q state body = record {
  state = record { no_part = refl; not_listed = refl };
  answer = refl;
  matched = refl;
  present = refl;
  flags_are = refl;
  memory = refl;
  locks = refl;
}

-- Behind the Query each tag stands in the first slot of the round, and isn't listed.
pub query-stands : (dr : Bool) (code : Code) (trext : Bool) (sel : Sel) (session : ℕ) (target : Side) (q : ℕ) (tag : TagValue)
    → let after = (step (commands.Query dr code trext sel session target q) tag.state tag.body).tag in StandsAfterSlot session q [] after false after
query-stands dr code trext sel session target q tag = record {
  state = (query-begins sel session target q tag.state tag.body).state;
  body = record { flags = refl; memory = refl; locks = refl };
}

-- It answers exactly where it is in reply after it, with the RN16 that it then holds.
pub query-answer : (dr : Bool) (code : Code) (trext : Bool) (sel : Sel) (session : ℕ) (target : Side) (q : ℕ) (tag : TagValue)
    → let outcome = step (commands.Query dr code trext sel session target q) tag.state tag.body in outcome.answer ≡ slot_answer_of outcome.tag.state
query-answer dr code trext sel session target q tag = (query-begins sel session target q tag.state tag.body).answer

-- A tag matches exactly where it is present and its flags, as the Query leaves them, are those that the Query speaks to.
pub query-matched : (dr : Bool) (code : Code) (trext : Bool) (sel : Sel) (session : ℕ) (target : Side) (q : ℕ) (tag : TagValue)
    → is_matched (step (commands.Query dr code trext sel session target q) tag.state tag.body).tag.state
    ≡ (is_present tag.state && matches sel session target (flags_behind_query session tag.state tag.body.flags))
query-matched dr code trext sel session target q tag = (query-begins sel session target q tag.state tag.body).matched

-- A Query makes no tag present or absent, so that the tags that matched are, behind it, those that are present and whose flags it
-- speaks to.
pub query-spoken : (dr : Bool) (code : Code) (trext : Bool) (sel : Sel) (session : ℕ) (target : Side) (q : ℕ) (tag : TagValue)
    → let after = (step (commands.Query dr code trext sel session target q) tag.state tag.body).tag in is_matched after.state ≡ (is_present after.state && matches sel session target after.body.flags)
query-spoken dr code trext sel session target q tag =
    let known = query-begins sel session target q tag.state tag.body in
    rw (known.present, known.flags_are) known.matched

-- It changes no memory.
pub query-memory : (dr : Bool) (code : Code) (trext : Bool) (sel : Sel) (session : ℕ) (target : Side) (q : ℕ) (tag : TagValue)
    → (step (commands.Query dr code trext sel session target q) tag.state tag.body).tag.body.memory ≡ tag.body.memory
query-memory dr code trext sel session target q tag = (query-begins sel session target q tag.state tag.body).memory

-- It leaves the flags but that of a tag that was inventoried.
pub query-flags : (dr : Bool) (code : Code) (trext : Bool) (sel : Sel) (session : ℕ) (target : Side) (q : ℕ) (tag : TagValue)
    → (step (commands.Query dr code trext sel session target q) tag.state tag.body).tag.body.flags ≡ flags_behind_query session tag.state tag.body.flags
query-flags dr code trext sel session target q tag = (query-begins sel session target q tag.state tag.body).flags_are
