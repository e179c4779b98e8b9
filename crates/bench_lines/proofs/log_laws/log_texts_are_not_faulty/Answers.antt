use Rattle.checked_lines.specs.laws.OneOutcome.{text_not_faulty}
use Rattle.bench_lines.specs.LogText.{ended, log_rules}
use Rattle.bench_lines.proofs.LogLaws.{logs_unambiguous}
use Rattle.bench_lines.proofs.log_laws.log_texts_are_not_faulty.Goals as goal

pub returns : goal.returns
returns c bytes tag log number fault is first =
    text_not_faulty log_rules (logs_unambiguous c.log_line_laws.ensures) bytes (ended tag log) number fault is first
