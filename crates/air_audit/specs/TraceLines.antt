-- Profile: the lines of a trace as an auditor reads them.
use Rattle.std.specs.Fmt.{decimal}
use Rattle.std.specs.Prelude.{◌≡◌, ℕ, Bool, List}
use Rattle.command_grammar.specs.Commands.{SpellsCommand}
use Rattle.command_grammar.specs.declared.commands.Command.{Command}
use Rattle.pie_line.specs.Pie.{FrameBeginsWith, IsFrame}
use Rattle.pie_line.specs.declared.frame.FrameKind.{FrameKind}
use Rattle.air_model.specs.Channel.{lead_of}
use Rattle.report_lines.specs.ReadLines.{TxFields}

-- The intervals are a frame, by whatever lengths, whose bits spell a command. It has a preamble exactly where that is a Query.
pub record AreFrameOf (command : Command) (intervals : List ℕ) : Type 0 where
  pub kind : FrameKind
  pub bits : List Bool
  pub frame : IsFrame kind bits intervals
  pub spells : SpellsCommand command bits
  pub lead : FrameBeginsWith kind (lead_of command)

-- the tx line of an exchange sends a command
pub record Sends (exchange : ℕ) (line : List ℕ) (command : Command) : Type 0 where
  pub tx : TxFields line
  pub number : tx.exchange ≡ decimal exchange
  pub frame : AreFrameOf command tx.intervals
