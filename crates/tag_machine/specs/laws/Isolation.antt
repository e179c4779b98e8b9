-- 6.3.2.2 Sessions and inventoried flags, 6.3.2.3 Selected flag: which commands may change which flag of a tag. Sessions
-- are independent of each other: a command of one session leaves the flags of the others alone.
use Rattle.std.specs.Prelude.{◌≡◌, ℕ, ◌<◌}
use Rattle.command_fields.specs.declared.choices.FlagName.TheVariants as flags
use Rattle.command_grammar.specs.declared.commands.Command.{Command}
use Rattle.command_grammar.specs.declared.commands.Command.TheVariants as commands
use Rattle.session_flags.specs.declared.flags.Flags.{Flags}
use Rattle.session_flags.specs.Flags.{side_of}
use Rattle.session_flags.specs.laws.FlagLaws.{flag_of}

-- the commands that may change the inventoried flag of a session: a Select with it as its target, and a Query, QueryRep
-- or QueryAdjust of the session
abbrev pub MayChange : Command → ℕ → Type 0
MayChange (commands.QueryRep own) session = own ≡ session
MayChange (commands.Query dr line_code trext sel own target q) session = own ≡ session
MayChange (commands.QueryAdjust own updn) session = own ≡ session
MayChange (commands.Select target action bank pointer mask) session = target ≡ flag_of session
MayChange other session = ⊥

-- the commands that may change the selected flag SL: a Select with SL as its target
abbrev pub MayChangeSl : Command → Type 0
MayChangeSl (commands.Select target action bank pointer mask) = target ≡ flags.Sl
MayChangeSl other = ⊥

-- the flags before a command and after it differ in those alone that it may change
pub record IsIsolated (command : Command) (old new : Flags) : Type 0 where
  pub sides : (session : ℕ) → session < 4 → ¬ MayChange command session → side_of new session ≡ side_of old session
  pub sl : ¬ MayChangeSl command → new.sl ≡ old.sl
