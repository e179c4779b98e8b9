-- What a call that writes a command does.
use Rattle.std.specs.Prelude.{◌≡◌}
use Rattle.bit_strings.specs.BitString.{BitString}
use Rattle.command_grammar.specs.Commands.{IsLegalCommand, spelling_of}
use Rattle.command_grammar.specs.declared.commands.Command.{Command}

-- the command's spelling stands in place of the bits that stood there
pub record Writes (command : Command) (old new : BitString) : Type 0 where
  pub legal : IsLegalCommand command
  pub spelled : new ≡ record old { items = spelling_of command }
