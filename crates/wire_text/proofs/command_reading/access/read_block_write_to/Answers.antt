-- The words of a BlockWrite, as a field counts them and as the command does.
use Rattle.std.proofs.Common.{rules}
use Rattle.wire_text.proofs.CommandsToldApart.{block_of_list, list_of_block}
use Rattle.wire_text.proofs.command_reading.access.read_block_write_to.Goals as goal

pub returns-in_err-block_of-clause-none : goal.returns-in_err-block_of-clause-none
returns-in_err-block_of-clause-none c = search (rules, list_of_block)

pub returns-clause-value : goal.returns-clause-value
returns-clause-value c = let block = block_of_list c.in_ok-block_of.field-0 c.in_ok-block_of.ensures.value.1 in search rules
