-- The law is a lemma of its own.
use Rattle.wire_text.proofs.CommandTexts.{command_comes_back}
use Rattle.wire_text.proofs.command_laws.command_lines_come_back.Goals as goal

pub returns : goal.returns
returns c = command_comes_back
