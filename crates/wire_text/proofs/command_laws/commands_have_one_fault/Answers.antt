-- The law is a lemma of its own.
use Rattle.wire_text.proofs.CommandTexts.{one_command_fault}
use Rattle.wire_text.proofs.command_laws.commands_have_one_fault.Goals as goal

pub returns : goal.returns
returns c = one_command_fault
