-- A tag that heard a BlockWrite or BlockErase, and then what undoes it, is as before.
use Rattle.std.proofs.Common.{◌≡◌, ◌≢◌, ℕ, ◌+◌, ◌<◌, ◌==◌, Bool, true, false, is_some, List, length, take, drop, replicate, Option, Some, None, Result, Ok, Err, if◌then◌else◌, refl, sym, ◌∙◌, ap, subst, arith}
use Rattle.std.proofs.lemmas.Bool.{le-leb}
use Rattle.std.proofs.lemmas.List.{length-replicate}
use Rattle.command_fields.specs.declared.choices.Bank.{Bank}
use Rattle.command_grammar.specs.declared.commands.Command.{Command}
use Rattle.command_grammar.specs.declared.commands.Command.TheVariants as commands
use Rattle.lock_rules.specs.declared.fields_and_levels.ErrorCode.{ErrorCode}
use Rattle.lock_rules.specs.declared.fields_and_levels.Level.{Level}
use Rattle.lock_rules.specs.declared.fields_and_levels.Level.TheVariants as levels
use Rattle.reply_grammar.specs.declared.expected.Reply.{Reply}
use Rattle.reply_grammar.specs.declared.expected.Reply.TheVariants.{Header, Error}
use Rattle.tag_memory.specs.ReadsAndWrites.{banks_after_write, length_fits}
use Rattle.tag_memory.specs.Memory.{Banks, IsLegalMemory, bank_of}
use Rattle.tag_machine.specs.Access.{held_state, memory_outcome, block_write_outcome}
use Rattle.tag_machine.specs.Answers.{Outcome, Sent, silent}
use Rattle.tag_machine.specs.Draws.{back}
use Rattle.tag_machine.specs.Inventory.{unless_half}
use Rattle.tag_machine.specs.Step.{step}
use Rattle.tag_machine.specs.TagValue.{StateValue, OpenState, SecuredState, BodyValue, TagValue}
use Rattle.tag_machine.specs.declared.states.Half.{Half}
use Rattle.tag_machine.specs.declared.states.Held.{Held}
use Rattle.log_judge.specs.Explaining.{seen_of}
use Rattle.log_judge.specs.Optional.{IsUndone, Undoes, is_header}
use Rattle.tag_machine.specs.declared.any_tag.Answered.{Answered}
use Rattle.tag_machine.specs.declared.any_tag.Answered.TheVariants.{Silent}
use Rattle.log_judge.specs.Answers.{seen_marked}
use Rattle.log_judge.proofs.Fitting.{same_number}
use Rattle.log_judge.proofs.SameAnswers.{reply_in}
use Rattle.log_judge.proofs.Tests.{no_test, none_or_some, not_so, one_number, so_not}
use Rattle.log_judge.proofs.Undoing.{is_written, undone}

-- what the reply is
abbrev pub RepliesWith : Option Sent → Reply → Type 0
RepliesWith answer reply = (sent : Sent) → answer ≡ Some sent → reply ≡ sent.reply

not_header : {code : ℕ} → Header ≡ Error code → ⊥
not_header same = so_not (ap is_header same)

-- a BlockWrite in open or secured, with the handle and without a first half
in_level : (level : Level) (held : Held) (body : BodyValue) (bank : Bank) (pointer : ℕ) (words : List ℕ) → held.half ≡ None
    → step (commands.BlockWrite bank pointer words held.handle) (held_state level held) body ≡ memory_outcome level held body (banks_after_write body.memory body.locks level bank pointer words)
in_level levels.Opened held body bank pointer words none =
    ap (λ (test : Bool). if test then unless_half held.half (back held.session held.q body) (block_write_outcome bank pointer words levels.Opened held body) else silent (OpenState held) body) (same_number held.handle)
    ∙ ap (λ (half : Option Half). unless_half half (back held.session held.q body) (block_write_outcome bank pointer words levels.Opened held body)) none
in_level levels.Secured held body bank pointer words none =
    ap (λ (test : Bool). if test then unless_half held.half (back held.session held.q body) (block_write_outcome bank pointer words levels.Secured held body) else silent (SecuredState held) body) (same_number held.handle)
    ∙ ap (λ (half : Option Half). unless_half half (back held.session held.q body) (block_write_outcome bank pointer words levels.Secured held body)) none

module _ (level : Level) (held : Held) (body : BodyValue) (bank : Bank) (pointer : ℕ) (words : List ℕ) (fits : length_fits body.memory ≡ true) where
  abbrev change : Result Banks ErrorCode
  change = banks_after_write body.memory body.locks level bank pointer words

  abbrev with_memory : Banks → BodyValue
  with_memory banks = record body { memory = banks }

  abbrev tag_here : TagValue
  tag_here = record { state = held_state level held; body = body }

  -- where it was refused, or there is nothing to undo, the tag is as it was
  refused_stays : (made : Result Banks ErrorCode) → change ≡ made → (reply : Reply) → RepliesWith (memory_outcome level held body made).answer reply → reply ≢ Header → (memory_outcome level held body made).tag ≡ tag_here
  refused_stays (Ok after) is reply replies other = absurd (other (replies _ refl))
  refused_stays (Err code) is reply replies other = refl

  pub refused : (reply : Reply) → RepliesWith (memory_outcome level held body change).answer reply → reply ≢ Header → (memory_outcome level held body change).tag ≡ tag_here
  refused reply replies other = refused_stays change refl reply replies other

  passes_stays : (made : Result Banks ErrorCode) → change ≡ made → length (bank_of body.memory bank) < pointer + length words → (memory_outcome level held body made).tag ≡ tag_here
  passes_stays (Ok after) is past = let it = is_written body.memory body.locks level bank pointer words after is in absurd (omega (arith, past, it.inside))
  passes_stays (Err code) is past = refl

  pub passes : length (bank_of body.memory bank) < pointer + length words → (memory_outcome level held body change).tag ≡ tag_here
  passes past = passes_stays change refl past

  -- else it is undone
  undone_by : (made : Result Banks ErrorCode) → change ≡ made → held.half ≡ None → (old : List ℕ) → old ≡ take (length words) (drop pointer (bank_of body.memory bank)) → (reply : Reply)
      → RepliesWith (memory_outcome level held body made).answer reply → reply ≡ Header
      → (step (commands.BlockWrite bank pointer old held.handle) (memory_outcome level held body made).tag.state (memory_outcome level held body made).tag.body).tag ≡ tag_here
  undone_by (Ok after) is none old old_is reply replies header =
      ap (λ (o : Outcome). o.tag) (in_level level held (with_memory after) bank pointer old none)
      ∙ ap (λ (r : Result Banks ErrorCode). (memory_outcome level held (with_memory after) r).tag) (undone body.memory body.locks level bank pointer words old after fits is old_is)
  undone_by (Err code) is none old old_is reply replies header = absurd (not_header (sym header ∙ replies _ refl))

  pub is_undone : held.half ≡ None → (old : List ℕ) → old ≡ take (length words) (drop pointer (bank_of body.memory bank)) → (reply : Reply) → RepliesWith (memory_outcome level held body change).answer reply → reply ≡ Header
      → (step (commands.BlockWrite bank pointer old held.handle) (memory_outcome level held body change).tag.state (memory_outcome level held body change).tag.body).tag ≡ tag_here
  is_undone none old old_is reply replies header = undone_by change refl none old old_is reply replies header

-- ... of a tag that does so
module _ (command : Command) (tag : TagValue) (fits : length_fits tag.body.memory ≡ true) where
  abbrev mine : Outcome
  mine = step command tag.state tag.body

  pub stays_refused : (undo : Option Command) → IsUndone command undo tag → (reply : Reply) → RepliesWith mine.answer reply → reply ≢ Header → mine.tag ≡ tag
  stays_refused undo it reply replies other =
      ap (λ (o : Outcome). o.tag) it.does
      ∙ refused it.level it.held tag.body it.bank it.pointer it.words fits reply (subst (λ (o : Outcome). RepliesWith o.answer reply) it.does replies) other
      ∙ ap (λ (s : StateValue). let t : TagValue = record { state = s; body = tag.body } in t) (sym it.in_state)

  pub stays_past : IsUndone command None tag → mine.tag ≡ tag
  stays_past it =
      ap (λ (o : Outcome). o.tag) it.does
      ∙ passes it.level it.held tag.body it.bank it.pointer it.words fits it.undoes
      ∙ ap (λ (s : StateValue). let t : TagValue = record { state = s; body = tag.body } in t) (sym it.in_state)

  pub stays_undone : (undo : Command) → IsUndone command (Some undo) tag → (reply : Reply) → RepliesWith mine.answer reply → reply ≡ Header → (step undo mine.tag.state mine.tag.body).tag ≡ tag
  stays_undone undo it reply replies header =
      ap (λ (c : Command). (step c mine.tag.state mine.tag.body).tag) it.undoes.1
      ∙ ap (λ (o : Outcome). (step (commands.BlockWrite it.bank it.pointer (take (length it.words) (drop it.pointer (bank_of tag.body.memory it.bank))) it.held.handle) o.tag.state o.tag.body).tag) it.does
      ∙ is_undone it.level it.held tag.body it.bank it.pointer it.words fits it.half (take (length it.words) (drop it.pointer (bank_of tag.body.memory it.bank))) refl reply
      (subst (λ (o : Outcome). RepliesWith o.answer reply) it.does replies) header
      ∙ ap (λ (s : StateValue). let t : TagValue = record { state = s; body = tag.body } in t) (sym it.in_state)

-- the EPC of a legal memory lies inside its bank
pub legal_fits : (banks : Banks) → IsLegalMemory banks → length_fits banks ≡ true
legal_fits banks legal = le-leb _ _ legal.length_fits

-- Where a BlockWrite or BlockErase is answered, it is undone so.
module _ (command : Command) (undo : Option Command) (body : BodyValue) (bank : Bank) (pointer rn : ℕ) (words : List ℕ) (undoes : Undoes bank pointer (length words) rn body.memory undo) where
  abbrev acts : Level → Held → Outcome
  acts level held = memory_outcome level held body (banks_after_write body.memory body.locks level bank pointer words)

  abbrev outcome_at : Level → Held → Bool → Option Half → Outcome
  outcome_at level held test half = (if test then unless_half half (back held.session held.q body) (acts level held) else silent (held_state level held) body)

  pub undone_in : (level : Level) (held : Held)
      → step command (held_state level held) body ≡ (if held.handle == rn then unless_half held.half (back held.session held.q body) (acts level held) else silent (held_state level held) body)
      → is_some (step command (held_state level held) body).answer ≡ true → IsUndone command undo (record { state = held_state level held; body = body })
  undone_in level held does answered = by (held.handle == rn) refl held.half refl
    where
      told : (test : Bool) (half : Option Half) → (held.handle == rn) ≡ test → held.half ≡ half → step command (held_state level held) body ≡ outcome_at level held test half
      told test half same is = does ∙ ap (λ (b : Bool). outcome_at level held b held.half) same ∙ ap (λ (h : Option Half). outcome_at level held test h) is

      by : (test : Bool) → (held.handle == rn) ≡ test → (half : Option Half) → held.half ≡ half → IsUndone command undo (record { state = held_state level held; body = body })
      by false same half is = absurd (no_test refl (sym (ap (λ (o : Outcome). is_some o.answer) (told false half same is)) ∙ answered))
      by true same (Some half) is = absurd (no_test refl (sym (ap (λ (o : Outcome). is_some o.answer) (told true (Some half) same is)) ∙ answered))
      by true same None is =
          let number : held.handle ≡ rn = one_number held.handle rn same in
          record {
            level = level;
            held = held;
            bank = bank;
            pointer = pointer;
            words = words;
            in_state = refl;
            half = is;
            does = told true None same is;
            undoes = subst (λ (n : ℕ). Undoes bank pointer (length words) n body.memory undo) (sym number) undoes;
          }

-- of a BlockWrite, and of a BlockErase
pub write_undone : (bank : Bank) (pointer rn : ℕ) (words : List ℕ) (undo : Option Command) (state : StateValue) (body : BodyValue) → Undoes bank pointer (length words) rn body.memory undo
    → is_some (step (commands.BlockWrite bank pointer words rn) state body).answer ≡ true → IsUndone (commands.BlockWrite bank pointer words rn) undo (record { state = state; body = body })
write_undone bank pointer rn words undo (OpenState held) body undoes answered = undone_in (commands.BlockWrite bank pointer words rn) undo body bank pointer rn words undoes levels.Opened held refl answered
write_undone bank pointer rn words undo (SecuredState held) body undoes answered = undone_in (commands.BlockWrite bank pointer words rn) undo body bank pointer rn words undoes levels.Secured held refl answered
write_undone bank pointer rn words undo state body undoes answered = absurd (not_so answered)

pub erase_undone : (bank : Bank) (pointer count rn : ℕ) (undo : Option Command) (state : StateValue) (body : BodyValue) → Undoes bank pointer count rn body.memory undo
    → is_some (step (commands.BlockErase bank pointer count rn) state body).answer ≡ true → IsUndone (commands.BlockErase bank pointer count rn) undo (record { state = state; body = body })
erase_undone bank pointer count rn undo (OpenState held) body undoes answered =
    undone_in (commands.BlockErase bank pointer count rn) undo body bank pointer rn (replicate count 0) (subst (λ (n : ℕ). Undoes bank pointer n rn body.memory undo) (sym (length-replicate count 0)) undoes) levels.Opened held refl answered
erase_undone bank pointer count rn undo (SecuredState held) body undoes answered =
    undone_in (commands.BlockErase bank pointer count rn) undo body bank pointer rn (replicate count 0) (subst (λ (n : ℕ). Undoes bank pointer n rn body.memory undo) (sym (length-replicate count 0)) undoes) levels.Secured held refl answered
erase_undone bank pointer count rn undo state body undoes answered = absurd (not_so answered)

-- the reply that stands in the room, where the mark beside it says that there is one
pub replies_as : (answered : Answered) (reply : Reply) (answer : Option Sent) → seen_marked answered reply ≡ seen_of answer → RepliesWith answer reply
replies_as Silent reply answer same = λ sent is. absurd (none_or_some (same ∙ ap seen_of is))
replies_as mark reply answer same = λ sent is. ap (reply_in reply) (same ∙ ap seen_of is)

pub header_told : (reply : Reply) → is_header reply ≡ true → reply ≡ Header
header_told Header is = refl
header_told reply is = absurd (no_test refl is)

pub other_told : (reply : Reply) → is_header reply ≡ false → reply ≢ Header
other_told reply other = λ same. so_not (sym (ap is_header same) ∙ other)

pub answers_some : (answer : Option Sent) → seen_of answer ≢ None → is_some answer ≡ true
answers_some None answered = absurd (answered refl)
answers_some (Some sent) answered = refl
