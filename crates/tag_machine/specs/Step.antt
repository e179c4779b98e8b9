-- Annex B and Annex C: what a tag becomes when it hears a command, and what it answers. For each tag and each command there
-- is one outcome.
use Rattle.command_grammar.specs.declared.commands.Command.{Command}
use Rattle.command_grammar.specs.declared.commands.Command.TheVariants as commands
use Rattle.tag_machine.specs.TagValue.{StateValue, BodyValue}
use Rattle.tag_machine.specs.Answers.{Outcome}
use Rattle.tag_machine.specs.Inventory.{query, query_rep, query_adjust, ack, nak, select}
use Rattle.tag_machine.specs.Access.{req_rn, read, write, kill, lock, access, block_write, block_erase}

-- DR, M and TRext of a Query tell the form of the replies, and change nothing in the tag
abbrev pub step : Command → StateValue → BodyValue → Outcome
step (commands.QueryRep session) state body = query_rep session state body
step (commands.Ack rn) state body = ack rn state body
step (commands.Query dr line_code trext sel session target q) state body = query sel session target q state body
step (commands.QueryAdjust session updn) state body = query_adjust session updn state body
step (commands.Select target action bank pointer mask) state body = select target action bank pointer mask state body
step commands.Nak state body = nak state body
step (commands.ReqRn rn) state body = req_rn rn state body
step (commands.Read bank pointer count rn) state body = read bank pointer count rn state body
step (commands.Write bank pointer covered rn) state body = write bank pointer covered rn state body
step (commands.Kill covered rn) state body = kill covered rn state body
step (commands.Lock payload rn) state body = lock payload rn state body
step (commands.Access covered rn) state body = access covered rn state body
step (commands.BlockWrite bank pointer words rn) state body = block_write bank pointer words rn state body
step (commands.BlockErase bank pointer count rn) state body = block_erase bank pointer count rn state body
