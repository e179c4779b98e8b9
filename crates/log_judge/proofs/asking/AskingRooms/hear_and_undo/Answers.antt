use Rattle.std.proofs.Common.{◌≡◌, true, false, Option, Some, None, ◌∙◌, rules, subst}
use Rattle.command_grammar.specs.declared.commands.Command.{Command}
use Rattle.tag_machine.specs.Hearing.{tag_value_of}
use Rattle.tag_machine.specs.Step.{step}
use Rattle.tag_machine.specs.TagValue.{TagValue}
use Rattle.log_judge.specs.Optional.{IsUndone, is_header}
use Rattle.log_judge.proofs.Undone.{header_told, legal_fits, other_told, replies_as, stays_past, stays_refused, stays_undone}
use Rattle.log_judge.proofs.asking.AskingRooms.hear_and_undo.Goals as goal

pub returns-in-None-clause-tag : goal.returns-in-None-clause-tag
returns-in-None-clause-tag g c =
    let command = c.args.command.now in
    let tag = tag_value_of c.args.tag in
    let undone : IsUndone command None tag = subst (λ (undo : Option Command). IsUndone command undo tag) c.in-None.is c.requires in
    c.hear-tag.ensures.tag ∙ stays_past command tag (legal_fits tag.body.memory c.state.ensures.legal.body.memory) undone

pub returns-then-not-is_header-clause-tag : goal.returns-then-not-is_header-clause-tag
returns-then-not-is_header-clause-tag g c =
    let command = c.args.command.now in
    let tag = tag_value_of c.args.tag in
    let room = c.hear-tag.new.self.answer in
    let other : is_header room.reply ≡ false = search rules in
    c.hear-tag.ensures.tag
    ∙ stays_refused command tag (legal_fits tag.body.memory c.state.ensures.legal.body.memory) c.args.undo c.requires room.reply
    (replies_as room.answered room.reply (step command tag.state tag.body).answer c.hear-tag.ensures.answer) (other_told room.reply other)

pub returns-else-not-is_header-clause-tag : goal.returns-else-not-is_header-clause-tag
returns-else-not-is_header-clause-tag g c =
    let command = c.args.command.now in
    let tag = tag_value_of c.args.tag in
    let room = c.hear-tag.new.self.answer in
    let undo = c.in-Some.undo in
    let undone : IsUndone command (Some undo) tag = subst (λ (u : Option Command). IsUndone command u tag) c.in-Some.is c.requires in
    let header : is_header room.reply ≡ true = search rules in
    subst (λ (t : TagValue). tag_value_of c.hear_unheard.result ≡ (step undo t.state t.body).tag) c.hear-tag.ensures.tag c.hear_unheard.ensures.tag
    ∙ stays_undone command tag (legal_fits tag.body.memory c.state.ensures.legal.body.memory) undo undone room.reply
    (replies_as room.answered room.reply (step command tag.state tag.body).answer c.hear-tag.ensures.answer) (header_told room.reply header)
