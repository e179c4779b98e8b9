use Rattle.std.proofs.Common.{◌≢◌, ◌+◌, ◌∙◌, [], ap, length, sym}
use Rattle.std.proofs.lemmas.Bool.{eqb-false}
use Rattle.bench_lines.proofs.Entries.{end_passed}
use Rattle.bench_lines.proofs.log_entries.read_end.Goals as goal

pub returns-else-is_empty-clause-refused : goal.returns-else-is_empty-clause-refused
returns-else-is_empty-clause-refused c = λ bytes tag log so_far.
    let some : c.args.rest.now ≢ [] = λ none. eqb-false (length c.args.rest.now) 0 (sym c.is_empty.ensures ∙ c.if-is_empty.false) (ap length none) in
    rw c.fault_behind.ensures (end_passed bytes tag log (3 + c.args.count) c.args.rest.now so_far some)
