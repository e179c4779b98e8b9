use Rattle.bench_lines.proofs.Walks.{probe_told}
use Rattle.bench_lines.proofs.probe_laws.probes_are_told_apart.Goals as goal

pub returns : goal.returns
returns c = probe_told (record { lines = c.line_laws.ensures.lines; tags = c.line_laws.ensures.tags })
