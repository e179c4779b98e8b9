-- What follows a slot, where it is told as the end of the round or as the slot command that stands in its place (profile).
use Rattle.std.specs.Prelude.{Option, Some, None}
use Rattle.command_grammar.specs.declared.commands.Command.{Command}
use Rattle.q_round.specs.declared.round.Next.{Next}
use Rattle.q_round.specs.declared.round.Next.TheVariants as nexts
use Rattle.q_round.specs.declared.round.RoundEnd.{RoundEnd}
use Rattle.q_round.specs.declared.round.RoundEnd.TheVariants as ends

-- the end of the round where there is one, and else this slot command
abbrev pub next_of : Option RoundEnd → Command → Next
next_of None command = nexts.Send command
next_of (Some ends.Quiet) command = nexts.Quiet
next_of (Some ends.Limit) command = nexts.Limit
