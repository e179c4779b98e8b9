-- The law is a lemma of its own.
use Rattle.wire_text.proofs.CommandTexts.{command_told}
use Rattle.wire_text.proofs.command_laws.commands_are_told_apart.Goals as goal

pub returns : goal.returns
returns c = command_told
