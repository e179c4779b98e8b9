use Rattle.checked_lines.specs.laws.OneOutcome.{one_text}
use Rattle.bench_lines.specs.LogText.{ended, log_rules}
use Rattle.bench_lines.proofs.LogLaws.{logs_unambiguous}
use Rattle.bench_lines.proofs.log_laws.logs_are_told_apart.Goals as goal

pub returns : goal.returns
returns c bytes tag other_tag log other_log is is' =
    let same = one_text log_rules (logs_unambiguous c.log_line_laws.ensures) bytes (ended tag log) (ended other_tag other_log) is is' in
    (cc, cc)
