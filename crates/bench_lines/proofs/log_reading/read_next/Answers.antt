use Rattle.bench_lines.proofs.log_reading.read_next.Goals as goal

pub returns-in-Some-clause-refused : goal.returns-in-Some-clause-refused
returns-in-Some-clause-refused c = c.in-Some.ensures.some c.args.count
