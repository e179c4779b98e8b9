-- What is read from the frame of a tx line.
use Rattle.std.specs.Prelude.{◌≡◌, ℕ, List, Result, Ok}
use Rattle.command_grammar.specs.declared.commands.Command.{Command}
use Rattle.command_grammar.specs.declared.refusal.CommandRefusal.{CommandRefusal}
use Rattle.air_audit.specs.declared.verdict.AuditReason.{AuditReason}
use Rattle.air_audit.specs.declared.verdict.AuditReason.TheVariants as reasons
use Rattle.air_audit.specs.TraceLines.{AreFrameOf, Sends}

-- the intervals are the frame of the command that was read
pub record ReadsFrame (intervals : List ℕ) (answer : Result Command CommandRefusal) : Type 0 where
  pub command : Command
  pub read : answer ≡ Ok command
  pub frame : AreFrameOf command intervals

-- the intervals are no frame of any command
pub record IsNoFrame (intervals : List ℕ) (reason : AuditReason) : Type 0 where
  pub named : reason ≡ reasons.Frame
  pub none : (command : Command) → ¬ AreFrameOf command intervals

-- the line sends the command that was read
pub record ReadsCommand (exchange : ℕ) (line : List ℕ) (answer : Result Command CommandRefusal) : Type 0 where
  pub command : Command
  pub read : answer ≡ Ok command
  pub sends : Sends exchange line command
