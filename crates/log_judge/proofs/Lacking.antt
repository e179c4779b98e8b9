-- When a tag answers a command that it need not have, and what it is when that is undone.
use Rattle.std.proofs.Common.{◌≡◌, ◌≢◌, ℕ, ◌==◌, ◌&&◌, Bool, true, false, is_some, is_none, List, Option, Some, None, bit_xor, if◌then◌else◌, refl, ◌∙◌}
use Rattle.command_fields.specs.declared.choices.Bank.{Bank}
use Rattle.command_grammar.specs.declared.commands.Command.{Command}
use Rattle.command_grammar.specs.declared.commands.Command.TheVariants as commands
use Rattle.lock_rules.specs.declared.fields_and_levels.Level.{Level}
use Rattle.lock_rules.specs.declared.fields_and_levels.Level.TheVariants as levels
use Rattle.reply_grammar.specs.declared.expected.Reply.TheVariants.{Handle}
use Rattle.tag_memory.specs.Memory.{access_word_of}
use Rattle.tag_machine.specs.Access.{access_whole, half_outcome, held_state, is_password, uncover, unless_other_half, whole_of, block_write_outcome, block_erase_outcome}
use Rattle.tag_machine.specs.Answers.{Outcome, Sent, plain_answer, silent}
use Rattle.tag_machine.specs.Draws.{back}
use Rattle.tag_machine.specs.Inventory.{unless_half}
use Rattle.tag_machine.specs.StateNumbers.{numbers_of}
use Rattle.tag_machine.specs.Step.{step}
use Rattle.tag_machine.specs.TagValue.{StateValue, OpenState, SecuredState, BodyValue, TagValue}
use Rattle.tag_machine.specs.declared.state_numbers.StateNumbers.{StateNumbers}
use Rattle.tag_machine.specs.declared.state_numbers.StateNumbers.TheVariants as numbers
use Rattle.tag_machine.specs.declared.states.Half.{Half}
use Rattle.tag_machine.specs.declared.states.Held.{Held}
use Rattle.tag_machine.specs.declared.states.Password.{Password}
use Rattle.tag_machine.specs.declared.states.Password.TheVariants as passwords
use Rattle.log_judge.specs.Explaining.{is_optional, seen_of}
use Rattle.log_judge.proofs.Tests.{no_test, some_or_none}
use Rattle.log_judge.specs.Optional.{AnswersOptional, answers_held, answers_now, answers_with, takes_cover, takes_half, takes_second}

-- with the handle, or without it
heeded : (test answered : Bool) (outcome : Outcome) (state : StateValue) (body : BodyValue) → is_some outcome.answer ≡ answered → is_some (if test then outcome else silent state body).answer ≡ (test && answered)
heeded true answered outcome state body is = is
heeded false answered outcome state body is = refl

-- Access
module _ (level : Level) (held : Held) (body : BodyValue) (covered : ℕ) where
  abbrev bare : Held
  bare = record held { cover = None }

  abbrev gone : Outcome
  gone = back held.session held.q body

  by_password : (password : Password) (both : ℕ) → is_some (if is_password passwords.Access password then access_whole both bare body else gone).answer ≡ takes_second password both (access_word_of body.memory)
  by_password passwords.Kill both = refl
  by_password passwords.Access both = by (access_word_of body.memory == both)
    where
      by : (test : Bool) → is_some (if test then plain_answer (SecuredState (record bare { half = None })) body (Handle bare.handle) bare.handle else back bare.session bare.q body).answer ≡ test
      by true = refl
      by false = refl

  by_half : (half : Option Half) (value : ℕ) → is_some (unless_other_half passwords.Access half gone (half_outcome passwords.Access level half value bare body)).answer ≡ takes_half half value (access_word_of body.memory)
  by_half None value = refl
  by_half (Some half) value = by_password half.password (whole_of half.value value)

  uncovered : (half : Option Half) → is_some (unless_other_half passwords.Access half gone (silent (held_state level held) body)).answer ≡ false
  uncovered None = refl
  uncovered (Some half) = by (is_password passwords.Access half.password)
    where
      by : (test : Bool) → is_some (if test then silent (held_state level held) body else gone).answer ≡ false
      by true = refl
      by false = refl

  pub by_cover : (cover : Option ℕ) → is_some (unless_other_half passwords.Access held.half gone (uncover level held body covered cover (λ it value. half_outcome passwords.Access level it.half value it body))).answer
      ≡ takes_cover cover held.half covered (access_word_of body.memory)
  by_cover None = uncovered held.half
  by_cover (Some cover) = by_half held.half (bit_xor covered cover)

-- BlockWrite and BlockErase
block_answers : (half : Option Half) (outcome instead : Outcome) → is_some outcome.answer ≡ true → is_some instead.answer ≡ false → is_some (unless_half half instead outcome).answer ≡ is_none half
block_answers None outcome instead answers other = answers
block_answers (Some half) outcome instead answers other = other

access_held : (level : Level) (covered rn : ℕ) (held : Held) (body : BodyValue)
    → is_some (step (commands.Access covered rn) (held_state level held) body).answer ≡ (held.handle == rn && takes_cover held.cover held.half covered (access_word_of body.memory))
access_held levels.Opened covered rn held body =
    heeded (held.handle == rn) (takes_cover held.cover held.half covered (access_word_of body.memory))
    (unless_other_half passwords.Access held.half (back held.session held.q body) (uncover levels.Opened held body covered held.cover (λ it value. half_outcome passwords.Access levels.Opened it.half value it body)))
    (OpenState held) body (by_cover levels.Opened held body covered held.cover)
access_held levels.Secured covered rn held body =
    heeded (held.handle == rn) (takes_cover held.cover held.half covered (access_word_of body.memory))
    (unless_other_half passwords.Access held.half (back held.session held.q body) (uncover levels.Secured held body covered held.cover (λ it value. half_outcome passwords.Access levels.Secured it.half value it body)))
    (SecuredState held) body (by_cover levels.Secured held body covered held.cover)

blocked : (state : StateValue) (rn : ℕ) (held : Held) (body : BodyValue) (outcome : Outcome) → is_some outcome.answer ≡ true
    → is_some (if held.handle == rn then unless_half held.half (back held.session held.q body) outcome else silent state body).answer ≡ (held.handle == rn && is_none held.half)
blocked state rn held body outcome answers =
    heeded (held.handle == rn) (is_none held.half) (unless_half held.half (back held.session held.q body) outcome) state body
    (block_answers held.half outcome (back held.session held.q body) answers refl)

write_held : (level : Level) (bank : Bank) (pointer : ℕ) (words : List ℕ) (rn : ℕ) (held : Held) (body : BodyValue)
    → is_some (step (commands.BlockWrite bank pointer words rn) (held_state level held) body).answer ≡ (held.handle == rn && is_none held.half)
write_held levels.Opened bank pointer words rn held body = blocked (OpenState held) rn held body (block_write_outcome bank pointer words levels.Opened held body) refl
write_held levels.Secured bank pointer words rn held body = blocked (SecuredState held) rn held body (block_write_outcome bank pointer words levels.Secured held body) refl

erase_held : (level : Level) (bank : Bank) (pointer count rn : ℕ) (held : Held) (body : BodyValue)
    → is_some (step (commands.BlockErase bank pointer count rn) (held_state level held) body).answer ≡ (held.handle == rn && is_none held.half)
erase_held levels.Opened bank pointer count rn held body = blocked (OpenState held) rn held body (block_erase_outcome bank pointer count levels.Opened held body) refl
erase_held levels.Secured bank pointer count rn held body = blocked (SecuredState held) rn held body (block_erase_outcome bank pointer count levels.Secured held body) refl

-- whether such a command is answered
in_held : (level : Level) (command : Command) (held : Held) (body : BodyValue) → is_optional (Some command) ≡ true → is_some (step command (held_state level held) body).answer ≡ answers_held command held (access_word_of body.memory)
in_held level (commands.Access covered rn) held body optional = access_held level covered rn held body
in_held level (commands.BlockWrite bank pointer words rn) held body optional = write_held level bank pointer words rn held body
in_held level (commands.BlockErase bank pointer count rn) held body optional = erase_held level bank pointer count rn held body
in_held level command held body optional = absurd (no_test refl optional)

-- elsewhere there is no answer
abbrev SilentElsewhere : Command → StateValue → Type 0
SilentElsewhere command state = (body : BodyValue) → is_some (step command state body).answer ≡ false

module _ (state : StateValue) (access : (covered rn : ℕ) → SilentElsewhere (commands.Access covered rn) state) (write : (bank : Bank) (pointer : ℕ) (words : List ℕ) (rn : ℕ) → SilentElsewhere (commands.BlockWrite bank pointer words rn) state)
    (erase : (bank : Bank) (pointer count rn : ℕ) → SilentElsewhere (commands.BlockErase bank pointer count rn) state) where
  elsewhere : (command : Command) → is_optional (Some command) ≡ true → SilentElsewhere command state
  elsewhere (commands.Access covered rn) optional = access covered rn
  elsewhere (commands.BlockWrite bank pointer words rn) optional = write bank pointer words rn
  elsewhere (commands.BlockErase bank pointer count rn) optional = erase bank pointer count rn
  elsewhere command optional = absurd (no_test refl optional)

in_state : (command : Command) (state : StateValue) (body : BodyValue) → is_optional (Some command) ≡ true → is_some (step command state body).answer ≡ answers_with command (numbers_of state) (access_word_of body.memory)
in_state command (OpenState held) body optional = in_held levels.Opened command held body optional
in_state command (SecuredState held) body optional = in_held levels.Secured command held body optional
in_state command state body optional = elsewhere state (λ covered rn b. refl) (λ bank pointer words rn b. refl) (λ bank pointer count rn b. refl) command optional body

held_optional : (command : Command) (held : Held) (password : ℕ) → answers_held command held password ≡ true → is_optional (Some command) ≡ true
held_optional (commands.Access covered rn) held password is = refl
held_optional (commands.BlockWrite bank pointer words rn) held password is = refl
held_optional (commands.BlockErase bank pointer count rn) held password is = refl
held_optional command held password is = absurd (no_test refl is)

with_optional : (command : Command) (it : StateNumbers) (password : ℕ) → answers_with command it password ≡ true → is_optional (Some command) ≡ true
with_optional command (numbers.Held held) password is = held_optional command held password is
with_optional command it password is = absurd (no_test refl is)

some_seen : (answer : Option Sent) → is_some answer ≡ true → seen_of answer ≢ None
some_seen None is = absurd (no_test refl is)
some_seen (Some sent) is = λ wrong. some_or_none wrong

none_seen : (answer : Option Sent) → is_some answer ≡ false → seen_of answer ≡ None
none_seen None is = refl
none_seen (Some sent) is = absurd (no_test is refl)

pub answers_so : (command : Command) (tag : TagValue) → answers_now command tag ≡ true → AnswersOptional command tag
answers_so command tag is =
    let optional = with_optional command (numbers_of tag.state) (access_word_of tag.body.memory) is in
    record { optional = optional; answered = some_seen (step command tag.state tag.body).answer (in_state command tag.state tag.body optional ∙ is) }

pub answers_not : (command : Command) (tag : TagValue) → answers_now command tag ≡ false → ¬ AnswersOptional command tag
answers_not command tag is answers = answers.answered (none_seen (step command tag.state tag.body).answer (in_state command tag.state tag.body answers.optional ∙ is))
