use Rattle.std.proofs.Common.{◌≢◌, ℕ, List, length, Some, None, ◌∙◌, subst, sym}
use Rattle.command_grammar.specs.declared.commands.Command.{Command}
use Rattle.command_grammar.specs.declared.commands.Command.TheVariants as commands
use Rattle.tag_machine.specs.Hearing.{tag_value_of}
use Rattle.tag_machine.specs.Step.{step}
use Rattle.log_judge.specs.Explaining.{seen_answer_to}
use Rattle.log_judge.specs.Optional.{IsUndone, Undoes}
use Rattle.log_judge.proofs.Undone.{answers_some, erase_undone, write_undone}
use Rattle.log_judge.proofs.asking.AskingRooms.ask.Goals as goal

pub hear_and_undo-requires : goal.hear_and_undo-requires
hear_and_undo-requires g c =
    let tag = tag_value_of c.args.tag in
    let it = c.in-BlockWrite in
    let undo = c.undo_of-undo.result in
    let write : Command = commands.BlockWrite it.bank it.pointer it.words it.rn in
    let undoes : Undoes it.bank it.pointer (length it.words) it.rn tag.body.memory undo = subst (λ (l : List ℕ). Undoes it.bank it.pointer (length l) it.rn tag.body.memory undo) c.as_slice.ensures.value c.undo_of-undo.ensures in
    let answered : seen_answer_to (Some write) tag ≢ None = subst (λ (command : Command). seen_answer_to (Some command) tag ≢ None) it.is c.requires.answered in
    subst (λ (command : Command). IsUndone command undo tag) (sym it.is)
    (write_undone it.bank it.pointer it.rn it.words undo tag.state tag.body undoes (answers_some (step write tag.state tag.body).answer answered))

pub hear_and_undo-requires-in-BlockErase : goal.hear_and_undo-requires-in-BlockErase
hear_and_undo-requires-in-BlockErase g c =
    let tag = tag_value_of c.args.tag in
    let it = c.in-BlockErase in
    let undo = c.undo_of-undo-in-BlockErase.result in
    let erase : Command = commands.BlockErase it.bank it.pointer it.count it.rn in
    let undoes : Undoes it.bank it.pointer it.count it.rn tag.body.memory undo
    = subst (λ (n : ℕ). Undoes it.bank it.pointer n it.rn tag.body.memory undo) (c.from.ensures ∙ c.get.ensures.value) c.undo_of-undo-in-BlockErase.ensures in
    let answered : seen_answer_to (Some erase) tag ≢ None = subst (λ (command : Command). seen_answer_to (Some command) tag ≢ None) it.is c.requires.answered in
    subst (λ (command : Command). IsUndone command undo tag) (sym it.is)
    (erase_undone it.bank it.pointer it.count it.rn undo tag.state tag.body undoes (answers_some (step erase tag.state tag.body).answer answered))
