use Rattle.checked_lines.specs.laws.FirstFault.{same_refused}
use Rattle.checked_lines.specs.laws.OneText.{same_text}
use Rattle.decode_lines.specs.Answer.{decode_rules}
use Rattle.decode_lines.proofs.OneAnswer.{one_answer}
use Rattle.decode_lines.proofs.OneReading.{tell_lines}
use Rattle.decode_lines.proofs.laws.decode_lines_have_one_text.Goals as goal

pub returns : goal.returns
returns c = record { answers = same_text decode_rules tell_lines one_answer; fault_line = same_refused decode_rules tell_lines }
