use Rattle.checked_lines.specs.laws.FirstFault.{asked_not_faulty}
use Rattle.encode_lines.specs.EncodeLines.{encode_rules}
use Rattle.encode_lines.proofs.OneReading.{tell_lines}
use Rattle.encode_lines.proofs.laws.encode_lines_are_not_faulty.Goals as goal

pub returns : goal.returns
returns c = asked_not_faulty encode_rules tell_lines
