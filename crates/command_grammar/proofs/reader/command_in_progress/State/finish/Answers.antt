use Rattle.std.proofs.Common.{ℕ, Ok, [], refl, subst, ap, sym, ◌∙◌}
use Rattle.std.specs.Prelude.{Option, Result}
use Rattle.bit_strings.specs.Family.{IsShortAt}
use Rattle.command_grammar.specs.declared.commands.Command.{Command}
use Rattle.command_grammar.specs.declared.refusal.CommandRefusal.{CommandRefusal}
use Rattle.command_grammar.specs.declared.refusal.Reason.{Reason}
use Rattle.command_grammar.specs.Commands.{command_of, Spellings, IsFinishAnswer, IsCommandRefusedAt}
use Rattle.command_grammar.specs.reading.Framing.{Keeps, HasRead}
use Rattle.command_grammar.proofs.reading.Resuming.{whole_read, open_read}
use Rattle.command_grammar.proofs.SpellingLaws.{one_command, not_spelled}
use Rattle.command_grammar.proofs.reader.command_in_progress.State.finish.Goals as goal

pub returns-in-Some : goal.returns-in-Some
returns-in-Some c = record {
  finishes = λ bits keeps. subst (λ (r : Option (ℕ × Reason)). Keeps c.args.self.now c.args.pushed r bits) c.in-Some.is keeps;
  only = λ bits command keeps spells.
      let refused : IsCommandRefusedAt bits c.in-Some.place c.in-Some.reason = subst (λ (r : Option (ℕ × Reason)). Keeps c.args.self.now c.args.pushed r bits) c.in-Some.is keeps in
      absurd (not_spelled bits c.in-Some.place (command, spells) refused.bad);
}

pub returns-in-Whole : goal.returns-in-Whole
returns-in-Whole c = record {
  finishes = λ bits keeps.
      subst (λ (answer : Result Command CommandRefusal). IsFinishAnswer answer bits) (sym c.answer.ensures) (whole_read c.args.self.now c.args.pushed bits c.in-Whole.is (subst (λ (r : Option (ℕ × Reason)). Keeps c.args.self.now c.args.pushed r bits) c.in-None.is keeps));
  only = λ bits command keeps spells.
      let whole = whole_read c.args.self.now c.args.pushed bits c.in-Whole.is (subst (λ (r : Option (ℕ × Reason)). Keeps c.args.self.now c.args.pushed r bits) c.in-None.is keeps) in
      c.answer.ensures ∙ ap (λ (x : Command). Ok x) (one_command (command_of c.args.self.now.kind c.args.self.now.fields) command bits whole spells);
}

pub returns-in-Code : goal.returns-in-Code
returns-in-Code c = record {
  finishes = λ bits keeps.
      let read : HasRead c.args.self.now c.args.pushed bits = subst (λ (r : Option (ℕ × Reason)). Keeps c.args.self.now c.args.pushed r bits) c.in-None.is keeps in
      subst (λ n. IsShortAt Spellings bits n) (sym read.count) (open_read c.args.self.now c.args.pushed bits c.in-Code.is read);
  only = λ bits command keeps spells.
      let read : HasRead c.args.self.now c.args.pushed bits = subst (λ (r : Option (ℕ × Reason)). Keeps c.args.self.now c.args.pushed r bits) c.in-None.is keeps in
      absurd ((open_read c.args.self.now c.args.pushed bits c.in-Code.is read).no_member (command, spells));
}
