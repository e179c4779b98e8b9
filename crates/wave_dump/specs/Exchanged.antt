-- Profile: an exchange that is over.
use Rattle.std.specs.Prelude.{ℕ, Bool, List}
use Rattle.command_grammar.specs.declared.commands.Command.{Command}
use Rattle.wave_dump.specs.declared.exchanged.Gave.{Gave}

-- its number, the command, the intervals of the frame in nanoseconds, how many tags replied, what the channel gave of their
-- replies, and the levels that came
pub record Exchanged : Type 0 where
  pub number : ℕ
  pub command : Command
  pub intervals : List ℕ
  pub replies : ℕ
  pub given : Gave
  pub levels : List Bool
