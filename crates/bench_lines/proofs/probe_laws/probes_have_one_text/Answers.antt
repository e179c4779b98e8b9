use Rattle.bench_lines.proofs.Effects.{one_text}
use Rattle.bench_lines.proofs.probe_laws.probes_have_one_text.Goals as goal

pub returns : goal.returns
returns c = one_text c.stimuli_have_one_effect.ensures.one
