use Rattle.checked_lines.specs.laws.OneOutcome.{one_fault}
use Rattle.bench_lines.specs.LogText.{log_rules}
use Rattle.bench_lines.proofs.LogLaws.{logs_unambiguous}
use Rattle.bench_lines.proofs.log_laws.log_texts_have_one_fault.Goals as goal

pub returns : goal.returns
returns c bytes one other fault reason first first' =
    one_fault log_rules (logs_unambiguous c.log_line_laws.ensures) bytes one other fault reason first first'
