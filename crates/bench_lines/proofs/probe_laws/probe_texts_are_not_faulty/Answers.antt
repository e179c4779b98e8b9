use Rattle.checked_lines.specs.laws.OneOutcome.{text_not_faulty}
use Rattle.bench_lines.specs.ProbeText.{ended, probe_rules}
use Rattle.bench_lines.proofs.Walks.{unambiguous}
use Rattle.bench_lines.proofs.probe_laws.probe_texts_are_not_faulty.Goals as goal

pub returns : goal.returns
returns c = λ bytes tag said number fault is.
    text_not_faulty probe_rules (unambiguous (record { lines = c.line_laws.ensures.lines; tags = c.line_laws.ensures.tags })) bytes (ended tag said) number fault is
