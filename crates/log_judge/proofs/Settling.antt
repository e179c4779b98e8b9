-- What a command at which nothing is drawn does goes by no word, and Q stays in its range.
use Rattle.std.proofs.Common.{◌≡◌, ℕ, ◌≤◌, ◌==◌, Bool, true, false, List, [], ◌∷◌, Option, Some, None, Result, Ok, Err, if◌then◌else◌, refl}
use Rattle.command_fields.specs.declared.choices.Bank.{Bank}
use Rattle.command_fields.specs.declared.choices.FlagName.{FlagName}
use Rattle.command_fields.specs.declared.choices.MaskBank.{MaskBank}
use Rattle.lock_rules.specs.declared.fields_and_levels.ErrorCode.{ErrorCode}
use Rattle.lock_rules.specs.declared.fields_and_levels.Level.{Level}
use Rattle.lock_rules.specs.declared.fields_and_levels.Level.TheVariants as levels
use Rattle.lock_rules.specs.declared.locks.Locks.{Locks}
use Rattle.lock_rules.specs.Lock.{locks_after}
use Rattle.tag_memory.specs.Memory.{Banks, kill_word_of, access_word_of}
use Rattle.tag_memory.specs.ReadsAndWrites.{banks_after_write}
use Rattle.tag_machine.specs.declared.states.Half.{Half}
use Rattle.tag_machine.specs.declared.states.Held.{Held}
use Rattle.tag_machine.specs.declared.states.Password.{Password}
use Rattle.tag_machine.specs.declared.states.Password.TheVariants as passwords
use Rattle.tag_machine.specs.TagValue.{StateValue, ReadyState, ReplyState, AcknowledgedState, OpenState, SecuredState, BodyValue}
use Rattle.tag_machine.specs.Answers.{Outcome}
use Rattle.tag_machine.specs.Inventory.{unless_half, end_turn, ack, nak, select}
use Rattle.tag_machine.specs.Access.{held_state, in_access, outcome_where_heeded, unless_ended, is_password, unless_other_half, uncover, read_outcome, memory_outcome, write_outcome, has_user, locks_outcome, lock_outcome, whole_of, whole_outcome, half_outcome, password_outcome}
use Rattle.log_judge.specs.laws.Kinds.{HasSmallQ, reworded}
use Rattle.log_judge.proofs.KindOutcomes.{outcome_reworded}

-- an outcome of a body with other words is that of the body, with these words, and Q is in its range
pub record Settles (words : List ℕ) (place : ℕ) (one other : Outcome) : Type 0 where
  pub same : other ≡ outcome_reworded words place one
  pub small : HasSmallQ one.tag.state

module _ (words : List ℕ) (place : ℕ) where
  abbrev with_them : BodyValue → BodyValue
  with_them body = reworded words place body

  -- a body with other words, of which the outcome is the same but for them
  so : {one : Outcome} → HasSmallQ one.tag.state → Settles words place one (outcome_reworded words place one)
  so small = record { same = refl; small = small }

  either : {x y x' y' : Outcome} (test : Bool) → Settles words place x x' → Settles words place y y' → Settles words place (if test then x else y) (if test then x' else y')
  either true of_x of_y = of_x
  either false of_x of_y = of_y

  past_half : {instead outcome instead' outcome' : Outcome} (half : Option Half) → Settles words place instead instead' → Settles words place outcome outcome'
      → Settles words place (unless_half half instead outcome) (unless_half half instead' outcome')
  past_half None of_instead given = given
  past_half (Some half) of_instead given = of_instead

  pub turn_ended : (session : ℕ) (held : Held) (body : BodyValue) → held.q ≤ 15 → Settles words place (end_turn session held body) (end_turn session held (with_them body))
  turn_ended session held body small = past_half held.half (so small) (so tt)

  -- ACK, NAK and Select
  pub after_ack : (rn : ℕ) (state : StateValue) (body : BodyValue) → HasSmallQ state → Settles words place (ack rn state body) (ack rn state (with_them body))
  after_ack rn (ReplyState session q own) body small = either (own == rn) (so small) (so small)
  after_ack rn (AcknowledgedState session q own) body small = either (own == rn) (so small) (so small)
  after_ack rn (OpenState held) body small = past_half held.half (so small) (either (held.handle == rn) (so small) (so small))
  after_ack rn (SecuredState held) body small = past_half held.half (so small) (either (held.handle == rn) (so small) (so small))
  after_ack rn state body small = so small

  pub after_nak : (state : StateValue) (body : BodyValue) → HasSmallQ state → Settles words place (nak state body) (nak state (with_them body))
  after_nak ReadyState body small = so small
  after_nak state body small = so small

  pub after_select : (target : FlagName) (action : ℕ) (bank : MaskBank) (pointer : ℕ) (mask : List Bool) (state : StateValue) (body : BodyValue) → HasSmallQ state
      → Settles words place (select target action bank pointer mask state body) (select target action bank pointer mask state (with_them body))
  after_select target action bank pointer mask (OpenState held) body small = past_half held.half (so small) (so tt)
  after_select target action bank pointer mask (SecuredState held) body small = past_half held.half (so small) (so tt)
  after_select target action bank pointer mask state body small = so tt

  -- the rules that stand before each access command
  past_other_half : {instead outcome instead' outcome' : Outcome} (password : Password) (half : Option Half) → Settles words place instead instead' → Settles words place outcome outcome'
      → Settles words place (unless_other_half password half instead outcome) (unless_other_half password half instead' outcome')
  past_other_half password None of_instead given = given
  past_other_half password (Some half) of_instead given = either (is_password password half.password) given of_instead

  past_ended : {outcome outcome' : Outcome} (brought : Option Password) (held : Held) (body : BodyValue) → held.q ≤ 15 → Settles words place outcome outcome'
      → Settles words place (unless_ended brought held body outcome) (unless_ended brought held (with_them body) outcome')
  past_ended (Some password) held body small given = past_other_half password held.half (so small) given
  past_ended None held body small given = past_half held.half (so small) given

  held_small : (level : Level) (held : Held) → held.q ≤ 15 → HasSmallQ (held_state level held)
  held_small levels.Opened held small = small
  held_small levels.Secured held small = small

  past_rules : {outcome outcome' : Outcome} (rn : ℕ) (brought : Option Password) (level : Level) (held : Held) (body : BodyValue) → held.q ≤ 15 → Settles words place outcome outcome'
      → Settles words place (outcome_where_heeded rn brought level held body outcome) (outcome_where_heeded rn brought level held (with_them body) outcome')
  past_rules rn brought level held body small given =
      either (held.handle == rn) (past_ended brought held body small given) (so (held_small level held small))

  pub accessed : (rn : ℕ) (brought : Option Password) (acts : Level → Held → BodyValue → Outcome) (state : StateValue) (body : BodyValue) → HasSmallQ state
      → ((level : Level) (held : Held) → held.q ≤ 15 → Settles words place (acts level held body) (acts level held (with_them body)))
      → Settles words place (in_access rn brought acts state body) (in_access rn brought acts state (with_them body))
  accessed rn brought acts (OpenState held) body small given = past_rules rn brought levels.Opened held body small (given levels.Opened held small)
  accessed rn brought acts (SecuredState held) body small given = past_rules rn brought levels.Secured held body small (given levels.Secured held small)
  accessed rn brought acts state body small given = so small

  uncovered : (level : Level) (held : Held) (body : BodyValue) (covered : ℕ) (cover : Option ℕ) (acts acts' : Held → ℕ → Outcome) → held.q ≤ 15
      → ((value : ℕ) → Settles words place (acts (record held { cover = None }) value) (acts' (record held { cover = None }) value))
      → Settles words place (uncover level held body covered cover acts) (uncover level held (with_them body) covered cover acts')
  uncovered level held body covered None acts acts' small given = so (held_small level held small)
  uncovered level held body covered (Some cover) acts acts' small given = given _

  pub read_done : (bank : Bank) (pointer count : ℕ) (body : BodyValue) (level : Level) (held : Held) → held.q ≤ 15
      → Settles words place (read_outcome bank pointer count level held body) (read_outcome bank pointer count level held (with_them body))
  read_done bank pointer count body level held small = so (held_small level held small)

  pub memory_done : (level : Level) (held : Held) (body : BodyValue) (change : Result Banks ErrorCode) → held.q ≤ 15
      → Settles words place (memory_outcome level held body change) (memory_outcome level held (with_them body) change)
  memory_done level held body (Ok memory) small = so (held_small level held small)
  memory_done level held body (Err code) small = so (held_small level held small)

  locks_done : (held : Held) (body : BodyValue) (change : Result Locks ErrorCode) → held.q ≤ 15
      → Settles words place (locks_outcome held body change) (locks_outcome held (with_them body) change)
  locks_done held body (Ok locks) small = so small
  locks_done held body (Err code) small = so small

  pub written : (bank : Bank) (pointer covered : ℕ) (body : BodyValue) (level : Level) (held : Held) → held.q ≤ 15
      → Settles words place (write_outcome bank pointer covered level held body) (write_outcome bank pointer covered level held (with_them body))
  written bank pointer covered body level held small =
      let change = λ (word : ℕ). banks_after_write body.memory body.locks level bank pointer (word ∷ []) in
      uncovered level held body covered held.cover (λ bare word. memory_outcome level bare body (change word)) (λ bare word. memory_outcome level bare (with_them body) (change word)) small
      (λ word. memory_done level (record held { cover = None }) body (change word) small)

  pub locked : (payload : ℕ) (body : BodyValue) (level : Level) (held : Held) → held.q ≤ 15
      → Settles words place (lock_outcome payload level held body) (lock_outcome payload level held (with_them body))
  locked payload body levels.Opened held small = so small
  locked payload body levels.Secured held small = locks_done held body (locks_after body.locks payload (has_user body)) small

  -- Kill and Access
  whole_taken : (password : Password) (level : Level) (value : ℕ) (held : Held) (body : BodyValue) → held.q ≤ 15
      → Settles words place (whole_outcome password level value held body) (whole_outcome password level value held (with_them body))
  whole_taken passwords.Kill level value held body small =
      either (kill_word_of body.memory == 0) (so (held_small level (record held { half = None }) small)) (either (kill_word_of body.memory == value) (so tt) (so small))
  whole_taken passwords.Access level value held body small = either (access_word_of body.memory == value) (so small) (so small)

  half_taken : (password : Password) (level : Level) (half : Option Half) (value : ℕ) (held : Held) (body : BodyValue) → held.q ≤ 15
      → Settles words place (half_outcome password level half value held body) (half_outcome password level half value held (with_them body))
  half_taken password level None value held body small =
      so (held_small level (record held { half = Some (record { password = password; value = value }) }) small)
  half_taken password level (Some half) value held body small = whole_taken password level (whole_of half.value value) held body small

  pub after_half : (password : Password) (covered rn : ℕ) (state : StateValue) (body : BodyValue) → HasSmallQ state
      → Settles words place (in_access rn (Some password) (password_outcome password covered) state body) (in_access rn (Some password) (password_outcome password covered) state (with_them body))
  after_half password covered rn state body small =
      accessed rn (Some password) (password_outcome password covered) state body small
      (λ level held in_range. uncovered level held body covered held.cover (λ bare value. half_outcome password level bare.half value bare body) (λ bare value. half_outcome password level bare.half value bare (with_them body)) in_range
      (λ value. half_taken password level held.half value (record held { cover = None }) body in_range))
