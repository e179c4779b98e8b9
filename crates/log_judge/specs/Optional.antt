-- 6.3.2.11.3 Access commands: when a tag answers one that it need not have.
use Rattle.std.specs.Prelude.{◌≡◌, ◌≢◌, ℕ, ◌+◌, ◌<◌, ◌≤◌, ◌==◌, ◌&&◌, Bool, true, false, is_none, List, length, take, drop, Option, Some, None, bit_xor}
use Rattle.command_grammar.specs.declared.commands.Command.{Command}
use Rattle.command_grammar.specs.declared.commands.Command.TheVariants as commands
use Rattle.command_fields.specs.declared.choices.Bank.{Bank}
use Rattle.lock_rules.specs.declared.fields_and_levels.Level.{Level}
use Rattle.reply_grammar.specs.declared.expected.Reply.{Reply}
use Rattle.reply_grammar.specs.declared.expected.Reply.TheVariants.{Rn16, Epc, Handle, Words, Header, Error}
use Rattle.tag_memory.specs.Memory.{Banks, access_word_of, bank_of}
use Rattle.tag_memory.specs.ReadsAndWrites.{banks_after_write}
use Rattle.tag_machine.specs.Access.{held_state, memory_outcome, whole_of}
use Rattle.tag_machine.specs.StateNumbers.{numbers_of}
use Rattle.tag_machine.specs.Step.{step}
use Rattle.tag_machine.specs.declared.state_numbers.StateNumbers.{StateNumbers}
use Rattle.tag_machine.specs.declared.state_numbers.StateNumbers.TheVariants as numbers
use Rattle.tag_machine.specs.TagValue.{TagValue}
use Rattle.tag_machine.specs.declared.states.Half.{Half}
use Rattle.tag_machine.specs.declared.states.Held.{Held}
use Rattle.tag_machine.specs.declared.states.Password.{Password}
use Rattle.tag_machine.specs.declared.states.Password.TheVariants as passwords
use Rattle.log_judge.specs.Explaining.{seen_answer_to, is_optional}

-- the tables answer a command that a tag need not have
pub record AnswersOptional (command : Command) (tag : TagValue) : Type 0 where
  pub optional : is_optional (Some command) ≡ true
  pub answered : seen_answer_to (Some command) tag ≢ None

-- 6.3.2.11.3.6 Access: a half of the access password that is uncovered so is a first half, or makes the password whole
abbrev pub takes_second : Password → ℕ → ℕ → Bool
takes_second passwords.Kill both password = false
takes_second passwords.Access both password = password == both

-- 6.3.2.11.3.6 Access: a half of the access password is taken as a first half whatever it is, and as a second one where it makes the password whole
abbrev pub takes_half : Option Half → ℕ → ℕ → Bool
takes_half None value password = true
takes_half (Some half) value password = takes_second half.password (whole_of half.value value) password

-- a half is uncovered by the RN16 that the tag gave last to cover it; without one no half is taken
abbrev pub takes_cover : Option ℕ → Option Half → ℕ → ℕ → Bool
takes_cover None half covered password = false
takes_cover (Some cover) half covered password = takes_half half (bit_xor covered cover) password

-- the half of an Access is taken by a tag that holds this
abbrev pub takes_access : Held → ℕ → ℕ → Bool
takes_access held covered password = takes_cover held.cover held.half covered password

-- such a command is answered in open and secured
abbrev pub answers_held : Command → Held → ℕ → Bool
answers_held (commands.QueryRep session) held password = false
answers_held (commands.Ack rn) held password = false
answers_held (commands.Query dr line_code trext sel session target q) held password = false
answers_held (commands.QueryAdjust session updn) held password = false
answers_held (commands.Select target action bank pointer mask) held password = false
answers_held commands.Nak held password = false
answers_held (commands.ReqRn rn) held password = false
answers_held (commands.Read bank pointer count rn) held password = false
answers_held (commands.Write bank pointer covered rn) held password = false
answers_held (commands.Kill covered rn) held password = false
answers_held (commands.Lock payload rn) held password = false
answers_held (commands.Access covered rn) held password = held.handle == rn && takes_access held covered password
answers_held (commands.BlockWrite bank pointer words rn) held password = held.handle == rn && is_none held.half
answers_held (commands.BlockErase bank pointer count rn) held password = held.handle == rn && is_none held.half

-- a command that a tag need not have is answered in open and secured, and in no other state
abbrev pub answers_with : Command → StateNumbers → ℕ → Bool
answers_with command numbers.None password = false
answers_with command (numbers.Waiting session q slot) password = false
answers_with command (numbers.Replied session q rn) password = false
answers_with command (numbers.Held held) password = answers_held command held password

-- a tag answers the command, which it need not have
abbrev pub answers_now : Command → TagValue → Bool
answers_now command tag = answers_with command (numbers_of tag.state) (access_word_of tag.body.memory)

-- the command that undoes a change of so many words of a bank: a BlockWrite of them as they stand there, or none where the bank hasn't so many
abbrev pub Undoes : Bank → ℕ → ℕ → ℕ → Banks → Option Command → Type 0
Undoes bank pointer count rn banks None = length (bank_of banks bank) < pointer + count
Undoes bank pointer count rn banks (Some command) =
    (pointer + count ≤ length (bank_of banks bank)) × (command ≡ commands.BlockWrite bank pointer (take count (drop pointer (bank_of banks bank))) rn)

-- a header alone, which says that a command was carried out
abbrev pub is_header : Reply → Bool
is_header (Rn16 number) = false
is_header (Epc pc epc) = false
is_header (Handle number) = false
is_header (Words words) = false
is_header Header = true
is_header (Error code) = false

-- The tag does what a BlockWrite or BlockErase of so many words does, and what undoes it is this.
pub record IsUndone (command : Command) (undo : Option Command) (tag : TagValue) : Type 0 where
  pub level : Level
  pub held : Held
  pub bank : Bank
  pub pointer : ℕ
  pub words : List ℕ
  pub in_state : tag.state ≡ held_state level held
  pub half : held.half ≡ None
  pub does : step command tag.state tag.body ≡ memory_outcome level held tag.body (banks_after_write tag.body.memory tag.body.locks level bank pointer words)
  pub undoes : Undoes bank pointer (length words) held.handle tag.body.memory undo
