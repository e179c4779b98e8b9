use Rattle.bench_lines.proofs.Effects.{one_effects, some_effects}
use Rattle.bench_lines.proofs.probe_laws.stimuli_have_one_effect.Goals as goal

pub returns-clause-some : goal.returns-clause-some
returns-clause-some c =
    let laws = c.spelling_laws.ensures in
    some_effects (record { one = laws.one; some = laws.some; not_bad = laws.not_bad; not_short = laws.not_short })

pub returns-clause-one : goal.returns-clause-one
returns-clause-one c =
    let laws = c.spelling_laws.ensures in
    one_effects (record { one = laws.one; some = laws.some; not_bad = laws.not_bad; not_short = laws.not_short })
