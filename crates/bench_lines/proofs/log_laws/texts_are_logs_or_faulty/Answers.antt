use Rattle.bench_lines.proofs.LogsComplete.{log_or_faulty}
use Rattle.bench_lines.proofs.log_laws.texts_are_logs_or_faulty.Goals as goal

pub returns : goal.returns
returns c = log_or_faulty c.log_line_laws.ensures
