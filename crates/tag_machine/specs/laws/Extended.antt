-- 6.3.2.11.3.3 Write, 6.3.2.11.3.4 Kill, 6.3.2.11.3.5 Lock, 6.3.2.11.3.7 BlockWrite, 6.3.2.11.3.8 BlockErase: a tag answers
-- these once it wrote its memory, with the extended preamble, whatever the TRext of the Query says. All other answers go by it.
use Rattle.std.specs.Prelude.{Bool, true, false, is_some}
use Rattle.command_grammar.specs.declared.commands.Command.{Command}
use Rattle.command_grammar.specs.declared.commands.Command.TheVariants as commands
use Rattle.tag_machine.specs.TagValue.{StateValue, OpenState, SecuredState}

-- a Kill or an Access is unfinished
abbrev pub has_half : StateValue → Bool
has_half (OpenState held) = is_some held.half
has_half (SecuredState held) = is_some held.half
has_half other = false

-- the replies to Write, Lock, BlockWrite and BlockErase, and to a Kill that comes after a first half, errors too
abbrev pub is_extended : Command → StateValue → Bool
is_extended (commands.Write bank pointer covered rn) state = true
is_extended (commands.Kill covered rn) state = has_half state
is_extended (commands.Lock payload rn) state = true
is_extended (commands.BlockWrite bank pointer words rn) state = true
is_extended (commands.BlockErase bank pointer count rn) state = true
is_extended other state = false
