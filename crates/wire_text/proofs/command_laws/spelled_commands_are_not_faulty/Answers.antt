-- The law is a lemma of its own.
use Rattle.wire_text.proofs.CommandTexts.{command_is_not_faulty}
use Rattle.wire_text.proofs.command_laws.spelled_commands_are_not_faulty.Goals as goal

pub returns : goal.returns
returns c = command_is_not_faulty
