-- What is known of the outcomes of Req_RN and of the access commands, state by state.
use Rattle.std.proofs.Common.{◌≡◌, ℕ, zero, suc, ◌^◌, ◌<◌, ◌==◌, Bool, true, false, List, [], ◌∷◌, Option, Some, None, Result, Ok, Err, IfOk, is_some, if◌then◌else◌, refl, sym, ◌∙◌, ap, subst, arith}
use Rattle.std.proofs.lemmas.Nat.{xor_of_16}
use Rattle.std.proofs.lemmas.Bool.{eqb-true}
use Rattle.std.proofs.lemmas.List.Elements.{All-cons, All-nil, All-from_recursion}
use Rattle.command_fields.specs.declared.choices.Bank.{Bank}
use Rattle.command_grammar.specs.declared.commands.Command.{Command}
use Rattle.command_grammar.specs.declared.commands.Command.TheVariants as commands
use Rattle.command_grammar.specs.Commands.{IsLegalCommand}
use Rattle.lock_rules.specs.declared.locks.Locks.{Locks}
use Rattle.lock_rules.specs.declared.fields_and_levels.ErrorCode.{ErrorCode}
use Rattle.lock_rules.specs.declared.fields_and_levels.ErrorCode.TheVariants as errors
use Rattle.lock_rules.specs.declared.fields_and_levels.Level.{Level}
use Rattle.lock_rules.specs.declared.fields_and_levels.Level.TheVariants as levels
use Rattle.lock_rules.specs.ErrorCodes.{error_number}
use Rattle.lock_rules.specs.Lock.{locks_after}
use Rattle.reply_grammar.specs.declared.expected.Reply.{Reply}
use Rattle.reply_grammar.specs.declared.expected.Reply.TheVariants.{Handle, Header, Error}
use Rattle.reply_grammar.specs.Replies.{IsReply}
use Rattle.tag_memory.specs.Memory.{Banks, kill_word_of, access_word_of, AreSound}
use Rattle.tag_memory.specs.ReadsAndWrites.{words_read, banks_after_write, banks_after_erase}
use Rattle.tag_machine.specs.declared.states.Half.{Half}
use Rattle.tag_machine.specs.declared.states.Held.{Held}
use Rattle.tag_machine.specs.declared.states.Password.{Password}
use Rattle.tag_machine.specs.declared.states.Password.TheVariants as passwords
use Rattle.tag_machine.specs.TagValue.{StateValue, ReplyState, AcknowledgedState, OpenState, SecuredState, KilledState, BodyValue, IsWordOrNone, IsLegalHeld, IsLegalState, IsLegalBody}
use Rattle.tag_machine.specs.Answers.{Sent, Outcome, silent, plain_answer, extended_answer, HasFewWords}
use Rattle.tag_machine.specs.Draws.{draw_of, body_after_draw, back}
use Rattle.tag_machine.specs.Access.{held_state, in_access, outcome_where_heeded, unless_ended, first_level, new_held, req_rn, is_password, unless_other_half, uncover, refuse, read_answer, read_outcome, memory_outcome, write_outcome, block_write_outcome, block_erase_outcome, has_user, locks_outcome, lock_outcome, whole_of, keep_half, whole_outcome, half_outcome, password_outcome}
use Rattle.tag_machine.specs.laws.DrawCounts.{draws_in}
use Rattle.tag_machine.specs.laws.Extended.{has_half, is_extended}
use Rattle.tag_machine.specs.laws.AnswersByCommand.{rn_or_handle_of, IsHandleAnswer, IsReadReply, IsDelayedAnswer, IsHeaderOrError, IsKillAnswer, IsAnswerTo}
use Rattle.tag_machine.proofs.BodyFacts.{IsLegalAt, same_body, with_memory, with_locks, drawn, word_drawn, sound_of}
use Rattle.tag_machine.proofs.LegalMemory.{written_sound, erased_sound}
use Rattle.tag_machine.proofs.OutcomeFacts.{SentFacts, Facts, either, past_half, answering, stays, goes_back}
use Rattle.tag_machine.proofs.ReadWords.{BringsWords, brought}

-- open and secured
number_held : (level : Level) (held : Held) → rn_or_handle_of (held_state level held) ≡ Some held.handle
number_held levels.Opened held = refl
number_held levels.Secured held = refl

half_held : (level : Level) (held : Held) → has_half (held_state level held) ≡ is_some held.half
half_held levels.Opened held = refl
half_held levels.Secured held = refl

held_of : (level : Level) (held : Held) → IsLegalState (held_state level held) → IsLegalHeld held
held_of levels.Opened held legal = legal
held_of levels.Secured held legal = legal

state_of : (level : Level) (held : Held) → IsLegalHeld held → IsLegalState (held_state level held)
state_of levels.Opened held legal = legal
state_of levels.Secured held legal = legal

-- the numbers that a tag holds, or is left with, at a command that carries its handle
record Carries (rn : ℕ) (state : StateValue) (body : BodyValue) (held : Held) : Type 0 where
  pub number : rn_or_handle_of state ≡ Some rn
  pub same : held.handle ≡ rn
  pub legal : IsLegalAt state body → IsLegalHeld held

without_cover : {rn : ℕ} {state : StateValue} {body : BodyValue} {held : Held} → Carries rn state body held → Carries rn state body (record held { cover = None })
without_cover own = record {
  number = own.number;
  same = own.same;
  legal = λ before. let legal = own.legal before in record { session = legal.session; q = legal.q; handle = legal.handle; cover = tt; half = legal.half };
}

without_half : {rn : ℕ} {state : StateValue} {body : BodyValue} {held : Held} → Carries rn state body held → Carries rn state body (record held { half = None })
without_half own = record {
  number = own.number;
  same = own.same;
  legal = λ before. let legal = own.legal before in record { session = legal.session; q = legal.q; handle = legal.handle; cover = legal.cover; half = tt };
}

held_back : {command : Command} {rn : ℕ} {state : StateValue} {body : BodyValue} {held : Held} → Carries rn state body held → draws_in command state body ≡ 0 → Facts command state body (back held.session held.q body)
held_back own none = goes_back none (λ of_command before. let legal = own.legal before in (legal.session, legal.q))

-- Req_RN: a new number
new_number : {rn : ℕ} {state after_state : StateValue} {body : BodyValue} → rn_or_handle_of state ≡ Some rn → draws_in (commands.ReqRn rn) state body ≡ 1 → (IsLegalAt state body → IsLegalState after_state) → Facts (commands.ReqRn rn) state body (plain_answer after_state (body_after_draw body) (Handle (draw_of body)) 0)
new_number {rn} {state} {after_state} {body} number one legal_after =
    answering (record { reply = Handle (draw_of body); handle = 0; extended = false }) (drawn same_body) one (λ of_command before. legal_after before)
    (record {
      fits = λ before. (record { number = number; reply = refl; plain = refl }, (word_drawn body before.body, omega arith, tt));
      marked = refl;
      refused = λ code is. absurd (cc);
    })

-- ... of a tag with this number
numbered : {state : StateValue} {body : BodyValue} (own rn : ℕ) (after_state : StateValue) → rn_or_handle_of state ≡ Some own → draws_in (commands.ReqRn rn) state body ≡ (if own == rn then 1 else 0) → (IsLegalAt state body → IsLegalState after_state) → Facts (commands.ReqRn rn) state body (if own == rn then plain_answer after_state (body_after_draw body) (Handle (draw_of body)) 0 else silent state body)
numbered {state} {body} own rn after_state number draws legal_after =
    either (Facts (commands.ReqRn rn) state body) (own == rn) (plain_answer after_state (body_after_draw body) (Handle (draw_of body)) 0) (silent state body)
    (λ same.
    let one : (if own == rn then 1 else 0) ≡ 1 = rw same refl in
    new_number (number ∙ ap (λ n. Some n) (eqb-true own rn same)) (draws ∙ one) legal_after)
    (λ other.
    let none : (if own == rn then 1 else 0) ≡ 0 = rw other refl in
    stays (draws ∙ none))

cover_given : (held : Held) (body : BodyValue) → IsLegalHeld held → IsLegalBody body → IsLegalHeld (record held { cover = Some (draw_of body) })
cover_given held body legal of_body = record { session = legal.session; q = legal.q; handle = legal.handle; cover = word_drawn body of_body; half = legal.half }

pub to_req_rn : (rn : ℕ) (state : StateValue) (body : BodyValue) → Facts (commands.ReqRn rn) state body (req_rn rn state body)
to_req_rn rn (ReplyState session q own) body = goes_back refl (λ of_command before. (before.state.0, before.state.1))
to_req_rn rn (AcknowledgedState session q own) body =
    let held = new_held session q (draw_of body) in
    numbered own rn (held_state (first_level body) held) refl refl
    (λ before. state_of (first_level body) held (record { session = before.state.0; q = before.state.1; handle = word_drawn body before.body; cover = tt; half = tt }))
to_req_rn rn (OpenState held) body =
    numbered held.handle rn (OpenState (record held { cover = Some (draw_of body) })) refl refl (λ before. cover_given held body before.state before.body)
to_req_rn rn (SecuredState held) body =
    numbered held.handle rn (SecuredState (record held { cover = Some (draw_of body) })) refl refl (λ before. cover_given held body before.state before.body)
to_req_rn rn state body = stays refl

-- the rules that stand before each access command in open and secured
past_other_half : (P : Outcome → Type 0) (password : Password) (half : Option Half) (instead outcome : Outcome) → P instead → P outcome → P (unless_other_half password half instead outcome)
past_other_half P password None instead outcome of_instead given = given
past_other_half P password (Some half) instead outcome of_instead given = either P (is_password password half.password) outcome instead (λ is. given) (λ is. of_instead)

past_ended : (P : Outcome → Type 0) (brought_half : Option Password) (held : Held) (body : BodyValue) (outcome : Outcome) → P (back held.session held.q body) → P outcome → P (unless_ended brought_half held body outcome)
past_ended P (Some password) held body outcome of_back given = past_other_half P password held.half (back held.session held.q body) outcome of_back given
past_ended P None held body outcome of_back given = past_half P held.half (back held.session held.q body) outcome of_back given

heeded : {command : Command} (rn : ℕ) (brought_half : Option Password) (level : Level) (held : Held) (body : BodyValue) (outcome : Outcome) → draws_in command (held_state level held) body ≡ 0 → (Carries rn (held_state level held) body held → Facts command (held_state level held) body outcome) → Facts command (held_state level held) body (outcome_where_heeded rn brought_half level held body outcome)
heeded {command} rn brought_half level held body outcome none given =
    let P = Facts command (held_state level held) body in
    either P (held.handle == rn) (unless_ended brought_half held body outcome) (silent (held_state level held) body)
    (λ is.
    let same = eqb-true held.handle rn is in
    let own : Carries rn (held_state level held) body held =
    record { number = number_held level held ∙ ap (λ n. Some n) same; same = same; legal = λ before. held_of level held before.state } in
    past_ended P brought_half held body outcome (held_back own none) (given own))
    (λ is. stays none)

-- an access command, at which no tag draws
accessed : (command : Command) (rn : ℕ) (brought_half : Option Password) (acts : Level → Held → BodyValue → Outcome) (state : StateValue) (body : BodyValue) → ((any : StateValue) → draws_in command any body ≡ 0) → ((level : Level) (held : Held) → Carries rn (held_state level held) body held → Facts command (held_state level held) body (acts level held body)) → Facts command state body (in_access rn brought_half acts state body)
accessed command rn brought_half acts (ReplyState session q own) body none given = goes_back (none _) (λ of_command before. (before.state.0, before.state.1))
accessed command rn brought_half acts (AcknowledgedState session q own) body none given = goes_back (none _) (λ of_command before. (before.state.0, before.state.1))
accessed command rn brought_half acts (OpenState held) body none given =
    heeded rn brought_half levels.Opened held body (acts levels.Opened held body) (none _) (given levels.Opened held)
accessed command rn brought_half acts (SecuredState held) body none given =
    heeded rn brought_half levels.Secured held body (acts levels.Secured held body) (none _) (given levels.Secured held)
accessed command rn brought_half acts state body none given = stays (none _)

-- a covered number, where the tag has a cover
uncovered : {command : Command} {body : BodyValue} (level : Level) (held : Held) (covered : ℕ) (cover : Option ℕ) (acts : Held → ℕ → Outcome) → draws_in command (held_state level held) body ≡ 0 → (IsLegalAt (held_state level held) body → IsWordOrNone cover) → (IsLegalCommand command → covered < 2 ^ 16) → ((value : ℕ) → (IsLegalCommand command → IsLegalAt (held_state level held) body → value < 2 ^ 16) → Facts command (held_state level held) body (acts (record held { cover = None }) value)) → Facts command (held_state level held) body (uncover level held body covered cover acts)
uncovered level held covered None acts none of_cover small given = stays none
uncovered level held covered (Some cover) acts none of_cover small given = given _ (λ of_command before. xor_of_16 covered cover (small of_command) (of_cover before))

cover_of : (level : Level) (held : Held) (body : BodyValue) → IsLegalAt (held_state level held) body → IsWordOrNone held.cover
cover_of level held body before = (held_of level held before.state).cover

-- Read
code_small : (code : ErrorCode) → error_number code < 2 ^ 8
code_small errors.Other = omega arith
code_small errors.Overrun = omega arith
code_small errors.Locked = omega arith

an_error_is_read : (count code : ℕ) → IsReadReply count (Error code)
an_error_is_read zero code = tt
an_error_is_read (suc more) code = tt

was_read : (bank : Bank) (pointer count rn : ℕ) (state : StateValue) (body : BodyValue) (held : Held) (found : Result (List ℕ) ErrorCode) → Carries rn state body held → (IsLegalBody body → IfOk found (BringsWords count)) → SentFacts (commands.Read bank pointer count rn) state body body (record { reply = read_answer found; handle = held.handle; extended = false })
was_read bank pointer count rn state body held (Ok words) own brings = record {
  fits = λ before.
      let found = brings before.body in
      (record { number = own.number; reply = found.fits; handle = own.same; plain = refl }, (found.small, (own.legal before).handle, (found.some, found.few)));
  marked = refl;
  refused = λ code is. refl;
}
was_read bank pointer count rn state body held (Err code) own brings = record {
  fits = λ before.
      (record { number = own.number; reply = an_error_is_read count (error_number code); handle = own.same; plain = refl }, (code_small code, (own.legal before).handle, tt));
  marked = refl;
  refused = λ other is. refl;
}

pub to_read : (bank : Bank) (pointer count rn : ℕ) (state : StateValue) (body : BodyValue) → Facts (commands.Read bank pointer count rn) state body (in_access rn None (read_outcome bank pointer count) state body)
to_read bank pointer count rn state body =
    let command = commands.Read bank pointer count rn in
    accessed command rn None (read_outcome bank pointer count) state body (λ any. refl)
    (λ level held own.
    let found = words_read body.memory body.locks level bank pointer count in
    answering (record { reply = read_answer found; handle = held.handle; extended = false }) same_body refl (λ of_command before. before.state)
    (was_read bank pointer count rn (held_state level held) body held found own (brought body level bank pointer count)))

-- a command that is answered by the header or an error, with the extended preamble
record AnswersLater (command : Command) (rn : ℕ) (state : StateValue) (body : BodyValue) : Type 0 where
  pub delayed : is_extended command state ≡ true
  pub is_answer : (sent : Sent) → IsDelayedAnswer rn state sent → IsAnswerTo command state body sent

answered_later : {command : Command} {rn : ℕ} {state : StateValue} {body after : BodyValue} {held : Held} (reply : Reply) → Carries rn state body held → AnswersLater command rn state body → IsHeaderOrError reply → IsReply reply → HasFewWords reply → ((code : ℕ) → reply ≡ Error code → after ≡ body) → SentFacts command state body after (record { reply = reply; handle = held.handle; extended = true })
answered_later reply own answers kind of_reply few unless_error = record {
  fits = λ before. (answers.is_answer _ (record { number = own.number; reply = kind; handle = own.same; delayed = refl }), (of_reply, (own.legal before).handle, few));
  marked = sym answers.delayed;
  refused = unless_error;
}

header_sent : {command : Command} {rn : ℕ} {state : StateValue} {body after : BodyValue} {held : Held} → Carries rn state body held → AnswersLater command rn state body → SentFacts command state body after (record { reply = Header; handle = held.handle; extended = true })
header_sent own answers = answered_later Header own answers tt tt tt (λ code is. absurd (cc))

error_sent : {command : Command} {rn : ℕ} {state : StateValue} {body : BodyValue} {held : Held} (code : ErrorCode) → Carries rn state body held → AnswersLater command rn state body → SentFacts command state body body (record { reply = Error (error_number code); handle = held.handle; extended = true })
error_sent code own answers = answered_later (Error (error_number code)) own answers tt (code_small code) tt (λ other is. refl)

-- Write, BlockWrite and BlockErase
memory_changed : {command : Command} {rn : ℕ} {state : StateValue} {body : BodyValue} (level : Level) (held : Held) (change : Result Banks ErrorCode) → Carries rn state body held → AnswersLater command rn state body → draws_in command state body ≡ 0 → (IsLegalCommand command → IsLegalAt state body → IfOk change AreSound) → Facts command state body (memory_outcome level held body change)
memory_changed {command} {rn} {state} {body} level held (Ok memory) own answers none sound =
    answering (record { reply = Header; handle = held.handle; extended = true }) (with_memory memory sound) none (λ of_command before. state_of level held (own.legal before)) (header_sent own answers)
memory_changed {command} {rn} {state} {body} level held (Err code) own answers none sound =
    answering (record { reply = Error (error_number code); handle = held.handle; extended = true }) same_body none (λ of_command before. state_of level held (own.legal before)) (error_sent code own answers)

written : {command : Command} {rn : ℕ} {body : BodyValue} (level : Level) (held : Held) (bank : Bank) (pointer covered : ℕ) → Carries rn (held_state level held) body held → AnswersLater command rn (held_state level held) body → draws_in command (held_state level held) body ≡ 0 → (IsLegalCommand command → covered < 2 ^ 16) → Facts command (held_state level held) body (write_outcome bank pointer covered level held body)
written {command} {rn} {body} level held bank pointer covered own answers none small =
    let change = λ (word : ℕ). banks_after_write body.memory body.locks level bank pointer (word ∷ []) in
    uncovered level held covered held.cover (λ bare word. memory_outcome level bare body (change word)) none (cover_of level held body) small
    (λ word of_word.
    memory_changed level (record held { cover = None }) (change word) (without_cover own) answers none
    (λ of_command before.
    written_sound body.memory body.locks level bank pointer (word ∷ []) (sound_of body before.body)
    (All-cons (λ (w : ℕ). w < 2 ^ 16) word [] (of_word of_command before) (All-nil (λ (w : ℕ). w < 2 ^ 16)))))

pub to_write : (bank : Bank) (pointer covered rn : ℕ) (state : StateValue) (body : BodyValue) → Facts (commands.Write bank pointer covered rn) state body (in_access rn None (write_outcome bank pointer covered) state body)
to_write bank pointer covered rn state body =
    accessed (commands.Write bank pointer covered rn) rn None (write_outcome bank pointer covered) state body (λ any. refl)
    (λ level held own. written level held bank pointer covered own (record { delayed = refl; is_answer = λ sent is. is }) refl (λ of_command. of_command.1))

pub to_block_write : (bank : Bank) (pointer : ℕ) (words : List ℕ) (rn : ℕ) (state : StateValue) (body : BodyValue) → Facts (commands.BlockWrite bank pointer words rn) state body (in_access rn None (block_write_outcome bank pointer words) state body)
to_block_write bank pointer words rn state body =
    accessed (commands.BlockWrite bank pointer words rn) rn None (block_write_outcome bank pointer words) state body (λ any. refl)
    (λ level held own.
    memory_changed level held (banks_after_write body.memory body.locks level bank pointer words) own (record { delayed = refl; is_answer = λ sent is. is }) refl
    (λ of_command before.
    written_sound body.memory body.locks level bank pointer words (sound_of body before.body)
    (All-from_recursion (λ (w : ℕ). w < 2 ^ 16) words of_command.3)))

pub to_block_erase : (bank : Bank) (pointer count rn : ℕ) (state : StateValue) (body : BodyValue) → Facts (commands.BlockErase bank pointer count rn) state body (in_access rn None (block_erase_outcome bank pointer count) state body)
to_block_erase bank pointer count rn state body =
    accessed (commands.BlockErase bank pointer count rn) rn None (block_erase_outcome bank pointer count) state body (λ any. refl)
    (λ level held own.
    memory_changed level held (banks_after_erase body.memory body.locks level bank pointer count) own (record { delayed = refl; is_answer = λ sent is. is }) refl
    (λ of_command before. erased_sound body.memory body.locks level bank pointer count (sound_of body before.body)))

-- Lock
locks_changed : {payload rn : ℕ} {body : BodyValue} {held : Held} (change : Result Locks ErrorCode) → Carries rn (SecuredState held) body held → Facts (commands.Lock payload rn) (SecuredState held) body (locks_outcome held body change)
locks_changed {payload} {rn} {body} {held} (Ok locks) own =
    answering (record { reply = Header; handle = held.handle; extended = true }) (with_locks locks) refl (λ of_command before. before.state)
    (header_sent own (record { delayed = refl; is_answer = λ sent is. is }))
locks_changed {payload} {rn} {body} {held} (Err code) own =
    answering (record { reply = Error (error_number code); handle = held.handle; extended = true }) same_body refl (λ of_command before. before.state)
    (error_sent code own (record { delayed = refl; is_answer = λ sent is. is }))

locked : (payload rn : ℕ) (level : Level) (held : Held) (body : BodyValue) → Carries rn (held_state level held) body held → Facts (commands.Lock payload rn) (held_state level held) body (lock_outcome payload level held body)
locked payload rn levels.Opened held body own = stays refl
locked payload rn levels.Secured held body own = locks_changed (locks_after body.locks payload (has_user body)) own

pub to_lock : (payload rn : ℕ) (state : StateValue) (body : BodyValue) → Facts (commands.Lock payload rn) state body (in_access rn None (lock_outcome payload) state body)
to_lock payload rn state body =
    accessed (commands.Lock payload rn) rn None (lock_outcome payload) state body (λ any. refl) (λ level held own. locked payload rn level held body own)

-- Kill and Access. A first Kill and each Access are answered by the handle, a second Kill by the header or an error.
abbrev pub half_command : Password → ℕ → ℕ → Command
half_command passwords.Kill covered rn = commands.Kill covered rn
half_command passwords.Access covered rn = commands.Access covered rn

-- a command that is answered by the handle
record AnswersHandle (command : Command) (rn : ℕ) (state : StateValue) (body : BodyValue) : Type 0 where
  pub plain : is_extended command state ≡ false
  pub is_answer : (sent : Sent) → IsHandleAnswer rn state sent → IsAnswerTo command state body sent

handle_sent : {command : Command} {rn : ℕ} {state : StateValue} {body : BodyValue} {held : Held} → Carries rn state body held → AnswersHandle command rn state body → SentFacts command state body body (record { reply = Handle held.handle; handle = held.handle; extended = false })
handle_sent own answers = record {
  fits = λ before.
      let small = (own.legal before).handle in
      (answers.is_answer _ (record { number = own.number; reply = ap (λ n. Handle n) own.same; handle = own.same; plain = refl }), (small, small, tt));
  marked = sym answers.plain;
  refused = λ code is. refl;
}

half_kept : {command : Command} {rn : ℕ} {state : StateValue} {body : BodyValue} (level : Level) (password : Password) (value : ℕ) (held : Held) → Carries rn state body held → AnswersHandle command rn state body → draws_in command state body ≡ 0 → (IsLegalCommand command → IsLegalAt state body → value < 2 ^ 16) → Facts command state body (keep_half level password value held body)
half_kept level password value held own answers none small =
    answering (record { reply = Handle held.handle; handle = held.handle; extended = false }) same_body none
    (λ of_command before.
    let legal = own.legal before in
    state_of level (record held { half = Some (record { password = password; value = value }) })
    (record { session = legal.session; q = legal.q; handle = legal.handle; cover = legal.cover; half = small of_command before }))
    (handle_sent own answers)

killed : {command : Command} {rn : ℕ} {state : StateValue} {body : BodyValue} (level : Level) (value : ℕ) (held : Held) → Carries rn state body held → AnswersLater command rn state body → draws_in command state body ≡ 0 → Facts command state body (whole_outcome passwords.Kill level value held body)
killed {command} {rn} {state} {body} level value held own answers none =
    let P = Facts command state body in
    let bare = record held { half = None } in
    let killed_tag = extended_answer KilledState body Header held.handle in
    let gone = back held.session held.q body in
    either P (kill_word_of body.memory == 0) (refuse level bare body errors.Other) (if kill_word_of body.memory == value then killed_tag else gone)
    (λ is.
    answering (record { reply = Error (error_number errors.Other); handle = held.handle; extended = true }) same_body none (λ of_command before. state_of level bare ((without_half own).legal before))
    (error_sent errors.Other own answers))
    (λ is.
    either P (kill_word_of body.memory == value) killed_tag gone
    (λ right. answering (record { reply = Header; handle = held.handle; extended = true }) same_body none (λ of_command before. tt) (header_sent own answers))
    (λ wrong. held_back own none))

shown : {command : Command} {rn : ℕ} {state : StateValue} {body : BodyValue} (level : Level) (value : ℕ) (held : Held) → Carries rn state body held → AnswersHandle command rn state body → draws_in command state body ≡ 0 → Facts command state body (whole_outcome passwords.Access level value held body)
shown {command} {rn} {state} {body} level value held own answers none =
    let bare = record held { half = None } in
    either (Facts command state body) (access_word_of body.memory == value) (plain_answer (SecuredState bare) body (Handle held.handle) held.handle) (back held.session held.q body)
    (λ right.
    answering (record { reply = Handle held.handle; handle = held.handle; extended = false }) same_body none (λ of_command before. (without_half own).legal before)
    (handle_sent own answers))
    (λ wrong. held_back own none)

first_kill : (covered rn : ℕ) (state : StateValue) (body : BodyValue) → has_half state ≡ false → AnswersHandle (commands.Kill covered rn) rn state body
first_kill covered rn state body first = record { plain = first; is_answer = λ sent is. subst (λ (second : Bool). IsKillAnswer second rn state sent) (sym first) is }

second_kill : (covered rn : ℕ) (state : StateValue) (body : BodyValue) → has_half state ≡ true → AnswersLater (commands.Kill covered rn) rn state body
second_kill covered rn state body second = record { delayed = second; is_answer = λ sent is. subst (λ (any : Bool). IsKillAnswer any rn state sent) (sym second) is }

half_taken : (password : Password) (covered rn : ℕ) (level : Level) (half : Option Half) (value : ℕ) (state : StateValue) (held : Held) (body : BodyValue) → has_half state ≡ is_some half → Carries rn state body held → (IsLegalCommand (half_command password covered rn) → IsLegalAt state body → value < 2 ^ 16) → Facts (half_command password covered rn) state body (half_outcome password level half value held body)
half_taken passwords.Kill covered rn level None value state held body has own small =
    half_kept level passwords.Kill value held own (first_kill covered rn state body has) refl small
half_taken passwords.Kill covered rn level (Some half) value state held body has own small =
    killed level (whole_of half.value value) held own (second_kill covered rn state body has) refl
half_taken passwords.Access covered rn level None value state held body has own small =
    half_kept level passwords.Access value held own (record { plain = refl; is_answer = λ sent is. is }) refl small
half_taken passwords.Access covered rn level (Some half) value state held body has own small =
    shown level (whole_of half.value value) held own (record { plain = refl; is_answer = λ sent is. is }) refl

pub to_half : (password : Password) (covered rn : ℕ) (state : StateValue) (body : BodyValue) → ((any : StateValue) → draws_in (half_command password covered rn) any body ≡ 0) → (IsLegalCommand (half_command password covered rn) → covered < 2 ^ 16) → Facts (half_command password covered rn) state body (in_access rn (Some password) (password_outcome password covered) state body)
to_half password covered rn state body none small =
    accessed (half_command password covered rn) rn (Some password) (password_outcome password covered) state body none
    (λ level held own.
    uncovered level held covered held.cover (λ bare value. half_outcome password level bare.half value bare body) (none _) (cover_of level held body) small
    (λ value of_value. half_taken password covered rn level held.half value (held_state level held) (record held { cover = None }) body (half_held level held) (without_cover own) of_value))
