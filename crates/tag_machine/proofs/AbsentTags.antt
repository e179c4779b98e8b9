-- A killed tag and one without power hear nothing.
use Rattle.std.proofs.Common.{◌≡◌, false, refl}
use Rattle.command_grammar.specs.declared.commands.Command.{Command}
use Rattle.command_grammar.specs.declared.commands.Command.TheVariants as commands
use Rattle.tag_machine.specs.TagValue.{StateValue, KilledState, UnpoweredState, BodyValue, is_present}
use Rattle.tag_machine.specs.Answers.{silent}
use Rattle.tag_machine.specs.Step.{step}

pub absent : (command : Command) (state : StateValue) (body : BodyValue) → is_present state ≡ false → step command state body ≡ silent state body
absent (commands.QueryRep session) KilledState body gone = refl
absent command KilledState body gone = refl
absent command UnpoweredState body gone = refl
absent command state body gone = absurd (cc)
