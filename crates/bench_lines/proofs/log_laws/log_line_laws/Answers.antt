use Rattle.bench_lines.proofs.log_laws.log_line_laws.Goals as goal

pub returns : goal.returns
returns c = record {
  lines = c.line_laws.ensures.lines;
  tags = c.line_laws.ensures.tags;
  seen = c.seen_laws.ensures;
  one_effect = c.stimuli_have_one_effect.ensures.one;
  some_effect = c.stimuli_have_one_effect.ensures.some;
}
