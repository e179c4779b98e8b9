use Rattle.std.proofs.Common.{refl}
use Rattle.log_judge.specs.Answers.{seen_in}
use Rattle.bench_lines.proofs.Entries.{answer_faulty, answer_read}
use Rattle.bench_lines.proofs.log_entries.read_answer.Goals as goal

pub returns-in-Ok-clause-ok : goal.returns-in-Ok-clause-ok
returns-in-Ok-clause-ok c = λ bytes tag log heard counted so_far.
    let says = c.in-Ok.ensures.ok refl in
    answer_read bytes tag log heard (seen_in c.read_seen.new.answer) c.args.count c.args.rest.now c.in-Some.line.now c.in-Some.behind.now counted so_far
    c.in-Some.ensures.lines says.0 says.1 says.2

pub returns-in-Err-clause-refused : goal.returns-in-Err-clause-refused
returns-in-Err-clause-refused c = λ bytes tag log heard counted so_far.
    rw c.fault_behind-in-Err.ensures
    (answer_faulty bytes tag log heard c.args.count c.args.rest.now c.in-Some.line.now c.in-Some.behind.now c.in-Err.reason counted so_far c.in-Some.ensures.lines
    c.in-Err.ensures.refused)
