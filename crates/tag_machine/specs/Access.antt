-- 6.3.2.11.3 Access commands; Annex B and Annex C: what each of these commands does in each state. How an unfinished Kill or
-- Access ends, and what becomes of a cover, is profile.
use Rattle.std.specs.Prelude.{ℕ, ◌+◌, ◌*◌, ◌^◌, ◌==◌, Bool, true, false, List, [], ◌∷◌, Option, Some, None, Result, bit_xor, if◌then◌else◌}
use Rattle.command_fields.specs.declared.choices.Bank.{Bank}
use Rattle.lock_rules.specs.declared.locks.Locks.{Locks}
use Rattle.lock_rules.specs.declared.fields_and_levels.ErrorCode.{ErrorCode}
use Rattle.lock_rules.specs.declared.fields_and_levels.ErrorCode.TheVariants as errors
use Rattle.lock_rules.specs.declared.fields_and_levels.Level.{Level}
use Rattle.lock_rules.specs.declared.fields_and_levels.Level.TheVariants as levels
use Rattle.lock_rules.specs.ErrorCodes.{error_number}
use Rattle.lock_rules.specs.Lock.{locks_after}
use Rattle.reply_grammar.specs.declared.expected.Reply.TheVariants.{Handle, Header, Error}
use Rattle.tag_memory.specs.Memory.{Banks, kill_word_of, access_word_of}
use Rattle.tag_memory.specs.ReadsAndWrites.{words_read, banks_after_write, banks_after_erase}
use Rattle.tag_machine.specs.declared.states.Half.{Half}
use Rattle.tag_machine.specs.declared.states.Password.{Password}
use Rattle.tag_machine.specs.declared.states.Password.TheVariants as passwords
use Rattle.tag_machine.specs.declared.states.Held.{Held}
use Rattle.tag_machine.specs.TagValue.{StateValue, ReadyState, ArbitrateState, ReplyState, AcknowledgedState, OpenState, SecuredState, KilledState, UnpoweredState, BodyValue}
use Rattle.tag_machine.specs.Answers.{Outcome, silent, plain_answer, extended_answer}
use Rattle.tag_machine.specs.Draws.{draw_of, body_after_draw, back}
use Rattle.tag_machine.specs.Inventory.{unless_half}
pub use Rattle.tag_body.specs.MemoryAnswers.{read_answer, change_answer, changed_or, has_user}

-- open or secured, with what the tag holds there: the permissions are those of the state
abbrev pub held_state : Level → Held → StateValue
held_state levels.Opened held = OpenState held
held_state levels.Secured held = SecuredState held

-- An access command comes to a tag in open or secured, the level of which tells its permissions. In reply and acknowledged the tag
-- goes back, whatever the number; in the other states nothing changes.
abbrev pub with_level : (Level → Held → BodyValue → Outcome) → StateValue → BodyValue → Outcome
with_level acts ReadyState body = silent ReadyState body
with_level acts (ArbitrateState session q slot) body = silent (ArbitrateState session q slot) body
with_level acts (ReplyState session q own) body = back session q body
with_level acts (AcknowledgedState session q own) body = back session q body
with_level acts (OpenState held) body = acts levels.Opened held body
with_level acts (SecuredState held) body = acts levels.Secured held body
with_level acts KilledState body = silent KilledState body
with_level acts UnpoweredState body = silent UnpoweredState body

-- Its number is the handle; else nothing changes.
abbrev pub with_handle : Level → ℕ → Held → BodyValue → Outcome → Outcome
with_handle level rn held body outcome =
    (if held.handle == rn then outcome else silent (held_state level held) body)

-- 6.3.2.11.3.1 Req_RN in acknowledged: what is drawn is the handle; secured where the access password is 0, else open
abbrev pub new_held : ℕ → ℕ → ℕ → Held
new_held session q handle = record { session = session; q = q; handle = handle; cover = None; half = None }

abbrev pub first_level : BodyValue → Level
first_level body = (if access_word_of body.memory == 0 then levels.Secured else levels.Opened)

-- 6.3.2.11.3.1 Req_RN in acknowledged: the tag answers the handle that it draws
abbrev pub give_handle : ℕ → ℕ → BodyValue → Outcome
give_handle session q body =
    plain_answer (held_state (first_level body) (new_held session q (draw_of body))) (body_after_draw body) (Handle (draw_of body)) 0

-- 6.3.2.11.3.1 Req_RN in open and secured: what is drawn covers the next Write, Kill or Access; the first half of a password stays
abbrev pub give_cover : Level → Held → BodyValue → Outcome
give_cover level held body =
    plain_answer (held_state level (record held { cover = Some (draw_of body) })) (body_after_draw body) (Handle (draw_of body)) 0

-- 6.3.2.11.3.1 Req_RN in open and secured, where the command carries the handle
abbrev pub req_rn_outcome : Level → ℕ → Held → BodyValue → Outcome
req_rn_outcome level rn held body = with_handle level rn held body (give_cover level held body)

-- 6.3.2.11.3.1 Req_RN, in each state
abbrev pub req_rn : ℕ → StateValue → BodyValue → Outcome
req_rn rn ReadyState body = silent ReadyState body
req_rn rn (ArbitrateState session q slot) body = silent (ArbitrateState session q slot) body
req_rn rn (ReplyState session q own) body = back session q body
req_rn rn (AcknowledgedState session q own) body =
    (if own == rn then give_handle session q body else silent (AcknowledgedState session q own) body)
req_rn rn (OpenState held) body = req_rn_outcome levels.Opened rn held body
req_rn rn (SecuredState held) body = req_rn_outcome levels.Secured rn held body
req_rn rn KilledState body = silent KilledState body
req_rn rn UnpoweredState body = silent UnpoweredState body

-- The rules of open and secured for the seven commands behind Req_RN, where they carry the handle.

-- 1. With a first half, a command that brings no half of the same password ends it: the tag goes back, without a reply. This goes
-- before all rules below. A Kill brings a half of the kill password, an Access one of the access password, each other command none.
abbrev pub is_password : Password → Password → Bool
is_password passwords.Kill passwords.Kill = true
is_password passwords.Kill passwords.Access = false
is_password passwords.Access passwords.Kill = false
is_password passwords.Access passwords.Access = true

-- a first half of another password ends; else the command does what it does
abbrev pub unless_other_half : Password → Option Half → Outcome → Outcome → Outcome
unless_other_half password None instead outcome = outcome
unless_other_half password (Some half) instead outcome = (if is_password password half.password then outcome else instead)

-- a first half of another password than an access command brings ends, and any where it brings none; else the command does what it does
abbrev pub unless_ended : Option Password → Held → BodyValue → Outcome → Outcome
unless_ended None held body outcome = unless_half held.half (back held.session held.q body) outcome
unless_ended (Some password) held body outcome = unless_other_half password held.half (back held.session held.q body) outcome

-- the rules of open and secured that stand before what a command does: the handle, and the first half
abbrev pub outcome_where_heeded : ℕ → Option Password → Level → Held → BodyValue → Outcome → Outcome
outcome_where_heeded rn brought level held body outcome = with_handle level rn held body (unless_ended brought held body outcome)

-- what stands before an access command, in each state
abbrev pub in_access : ℕ → Option Password → (Level → Held → BodyValue → Outcome) → StateValue → BodyValue → Outcome
in_access rn brought acts state body = with_level (λ level held rest. outcome_where_heeded rn brought level held rest (acts level held rest)) state body

-- 2. 6.3.2.11.3.2 Read: the words, or an error
abbrev pub read_outcome : Bank → ℕ → ℕ → Level → Held → BodyValue → Outcome
read_outcome bank pointer count level held body =
    plain_answer (held_state level held) body (read_answer (words_read body.memory body.locks level bank pointer count)) held.handle

abbrev pub read : Bank → ℕ → ℕ → ℕ → StateValue → BodyValue → Outcome
read bank pointer count rn state body = in_access rn None (read_outcome bank pointer count) state body

-- 3. A Write, Kill or Access without a cover changes nothing and gets no reply. With one, the cover is used up, whatever follows,
-- and the value is the covered number XOR the cover.
abbrev pub uncover : Level → Held → BodyValue → ℕ → Option ℕ → (Held → ℕ → Outcome) → Outcome
uncover level held body covered None acts = silent (held_state level held) body
uncover level held body covered (Some cover) acts = acts (record held { cover = None }) (bit_xor covered cover)

-- 4. Write, BlockWrite and BlockErase: the new memory and the header, or an error and the memory as it was
abbrev pub memory_outcome : Level → Held → BodyValue → Result Banks ErrorCode → Outcome
memory_outcome level held body change =
    extended_answer (held_state level held) (record body { memory = changed_or body.memory change }) (change_answer change) held.handle

-- 6.3.2.11.3.3 Write: the covered word is uncovered and written into the bank, and its cover is gone
abbrev pub write_outcome : Bank → ℕ → ℕ → Level → Held → BodyValue → Outcome
write_outcome bank pointer covered level held body =
    uncover level held body covered held.cover
    (λ bare word. memory_outcome level bare body (banks_after_write body.memory body.locks level bank pointer (word ∷ [])))

abbrev pub write : Bank → ℕ → ℕ → ℕ → StateValue → BodyValue → Outcome
write bank pointer covered rn state body = in_access rn None (write_outcome bank pointer covered) state body

-- 6.3.2.11.3.7 BlockWrite: the words are written into the bank from the pointer on, and no cover is wanted
abbrev pub block_write_outcome : Bank → ℕ → List ℕ → Level → Held → BodyValue → Outcome
block_write_outcome bank pointer words level held body =
    memory_outcome level held body (banks_after_write body.memory body.locks level bank pointer words)

abbrev pub block_write : Bank → ℕ → List ℕ → ℕ → StateValue → BodyValue → Outcome
block_write bank pointer words rn state body = in_access rn None (block_write_outcome bank pointer words) state body

-- 6.3.2.11.3.8 BlockErase: so many words of the bank become 0 from the pointer on, and no cover is wanted
abbrev pub block_erase_outcome : Bank → ℕ → ℕ → Level → Held → BodyValue → Outcome
block_erase_outcome bank pointer count level held body =
    memory_outcome level held body (banks_after_erase body.memory body.locks level bank pointer count)

abbrev pub block_erase : Bank → ℕ → ℕ → ℕ → StateValue → BodyValue → Outcome
block_erase bank pointer count rn state body = in_access rn None (block_erase_outcome bank pointer count) state body

-- 5. 6.3.2.11.3.5 Lock: in open nothing changes, and there is no reply. In secured: the new pairs and the header, or an error and
-- the pairs as they were.
abbrev pub locks_outcome : Held → BodyValue → Result Locks ErrorCode → Outcome
locks_outcome held body change =
    extended_answer (SecuredState held) (record body { locks = changed_or body.locks change }) (change_answer change) held.handle

abbrev pub lock_outcome : ℕ → Level → Held → BodyValue → Outcome
lock_outcome payload levels.Opened held body = silent (OpenState held) body
lock_outcome payload levels.Secured held body = locks_outcome held body (locks_after body.locks payload (has_user body))

abbrev pub lock : ℕ → ℕ → StateValue → BodyValue → Outcome
lock payload rn state body = in_access rn None (lock_outcome payload) state body

-- 6. Kill or Access without a first half: the value is kept as one, and the handle is answered.
abbrev pub keep_half : Level → Password → ℕ → Held → BodyValue → Outcome
keep_half level password value held body =
    plain_answer (held_state level (record held { half = Some (record { password = password; value = value }) })) body (Handle held.handle) held.handle

-- both halves of a password, the upper one first
abbrev pub whole_of : ℕ → ℕ → ℕ
whole_of upper lower = upper * 2 ^ 16 + lower

-- 7. 6.3.2.11.3.6 Access with a first half: where both halves are the access password the tag is in secured without a first half,
-- and the handle is answered. With another value the tag goes back, without a reply.
abbrev pub access_whole : ℕ → Held → BodyValue → Outcome
access_whole value held body =
    (if access_word_of body.memory == value
    then plain_answer (SecuredState (record held { half = None })) body (Handle held.handle) held.handle
    else back held.session held.q body)

-- the error that a tag answers in place of the header, and nothing else changes
abbrev pub refuse : Level → Held → BodyValue → ErrorCode → Outcome
refuse level held body code = extended_answer (held_state level held) body (Error (error_number code)) held.handle

-- 8. 6.3.2.11.3.4 Kill with a first half: where the kill password is 0 the answer is an error (its code is profile), the first half
-- is forgotten, and the state stays. Where both halves are the kill password the header is answered, and the tag is killed. With
-- another value the tag goes back, without a reply.
abbrev pub kill_whole : Level → ℕ → Held → BodyValue → Outcome
kill_whole level value held body =
    (if kill_word_of body.memory == 0 then refuse level (record held { half = None }) body errors.Other
    else (if kill_word_of body.memory == value then extended_answer KilledState body Header held.handle
    else back held.session held.q body))

-- Kill and Access by rules 3 and 6 to 8
abbrev pub whole_outcome : Password → Level → ℕ → Held → BodyValue → Outcome
whole_outcome passwords.Kill level value held body = kill_whole level value held body
whole_outcome passwords.Access level value held body = access_whole value held body

-- by whether there is a first half: the value is kept as one, or completes the password
abbrev pub half_outcome : Password → Level → Option Half → ℕ → Held → BodyValue → Outcome
half_outcome password level None value held body = keep_half level password value held body
half_outcome password level (Some half) value held body = whole_outcome password level (whole_of half.value value) held body

-- a half of a password that comes under a cover: it is kept as a first half, or completes the password
abbrev pub password_outcome : Password → ℕ → Level → Held → BodyValue → Outcome
password_outcome password covered level held body =
    uncover level held body covered held.cover (λ bare value. half_outcome password level bare.half value bare body)

abbrev pub kill : ℕ → ℕ → StateValue → BodyValue → Outcome
kill covered rn state body = in_access rn (Some passwords.Kill) (password_outcome passwords.Kill covered) state body

abbrev pub access : ℕ → ℕ → StateValue → BodyValue → Outcome
access covered rn state body = in_access rn (Some passwords.Access) (password_outcome passwords.Access covered) state body
