-- The law is a lemma of its own.
use Rattle.wire_text.proofs.CommandTexts.{command_texts}
use Rattle.wire_text.proofs.command_laws.commands_are_field_texts.Goals as goal

pub returns : goal.returns
returns c = command_texts
