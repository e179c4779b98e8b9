use Rattle.checked_lines.specs.laws.FirstFault.{same_refused}
use Rattle.checked_lines.specs.laws.OneText.{same_text}
use Rattle.encode_lines.specs.EncodeLines.{encode_rules}
use Rattle.encode_lines.proofs.OneLine.{one_line}
use Rattle.encode_lines.proofs.OneReading.{tell_lines}
use Rattle.encode_lines.proofs.laws.encode_lines_have_one_text.Goals as goal

pub returns : goal.returns
returns c = record { written = same_text encode_rules tell_lines one_line; fault_line = same_refused encode_rules tell_lines }
