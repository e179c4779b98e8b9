use Rattle.checked_lines.specs.laws.OneOutcome.{one_fault}
use Rattle.bench_lines.specs.ProbeText.{probe_rules}
use Rattle.bench_lines.proofs.Walks.{unambiguous}
use Rattle.bench_lines.proofs.probe_laws.probe_texts_have_one_fault.Goals as goal

pub returns : goal.returns
returns c = one_fault probe_rules (unambiguous (record { lines = c.line_laws.ensures.lines; tags = c.line_laws.ensures.tags }))
