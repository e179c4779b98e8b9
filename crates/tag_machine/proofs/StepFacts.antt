-- What is known of the outcome of each command in each state.
use Rattle.command_grammar.specs.declared.commands.Command.{Command}
use Rattle.command_grammar.specs.declared.commands.Command.TheVariants as commands
use Rattle.std.proofs.Common.{refl}
use Rattle.tag_machine.specs.declared.states.Password.TheVariants as passwords
use Rattle.tag_machine.specs.TagValue.{StateValue, BodyValue}
use Rattle.tag_machine.specs.Step.{step}
use Rattle.tag_machine.proofs.AccessFacts.{to_req_rn, to_read, to_write, to_half, to_lock, to_block_write, to_block_erase}
use Rattle.tag_machine.proofs.InventoryFacts.{to_query, to_query_rep, to_query_adjust, to_ack, to_nak, to_select}
use Rattle.tag_machine.proofs.OutcomeFacts.{Facts}

pub step_facts : (command : Command) (state : StateValue) (body : BodyValue) → Facts command state body (step command state body)
step_facts (commands.QueryRep session) state body = to_query_rep session state body
step_facts (commands.Ack rn) state body = to_ack rn state body
step_facts (commands.Query dr line_code trext sel session target q) state body = to_query dr line_code trext sel session target q state body
step_facts (commands.QueryAdjust session updn) state body = to_query_adjust session updn state body
step_facts (commands.Select target action bank pointer mask) state body = to_select target action bank pointer mask state body
step_facts commands.Nak state body = to_nak state body
step_facts (commands.ReqRn rn) state body = to_req_rn rn state body
step_facts (commands.Read bank pointer count rn) state body = to_read bank pointer count rn state body
step_facts (commands.Write bank pointer covered rn) state body = to_write bank pointer covered rn state body
step_facts (commands.Kill covered rn) state body = to_half passwords.Kill covered rn state body (λ any. refl) (λ of_command. of_command.0)
step_facts (commands.Lock payload rn) state body = to_lock payload rn state body
step_facts (commands.Access covered rn) state body = to_half passwords.Access covered rn state body (λ any. refl) (λ of_command. of_command.0)
step_facts (commands.BlockWrite bank pointer words rn) state body = to_block_write bank pointer words rn state body
step_facts (commands.BlockErase bank pointer count rn) state body = to_block_erase bank pointer count rn state body
