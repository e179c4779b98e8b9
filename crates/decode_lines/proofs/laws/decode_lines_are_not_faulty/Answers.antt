use Rattle.checked_lines.specs.laws.FirstFault.{asked_not_faulty}
use Rattle.decode_lines.specs.Answer.{decode_rules}
use Rattle.decode_lines.proofs.OneReading.{tell_lines}
use Rattle.decode_lines.proofs.laws.decode_lines_are_not_faulty.Goals as goal

pub returns : goal.returns
returns c = asked_not_faulty decode_rules tell_lines
