use Rattle.bench_lines.specs.declared.probe_line.LineWord.TheVariants.{End}
use Rattle.bench_lines.proofs.bench_reading.begins_with_end.Goals as goal

pub returns-in-None-clause-no : goal.returns-in-None-clause-no
returns-in-None-clause-no c = λ none. c.in-None.ensures.none End
