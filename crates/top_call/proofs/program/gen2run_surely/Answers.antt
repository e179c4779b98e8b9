-- No count of a source and a sink that never fail rises.
use Rattle.top_call.proofs.Ends.{none_rose}
use Rattle.top_call.proofs.program.gen2run_surely.Goals as goal

pub returns-clause-no_read_fault : goal.returns-clause-no_read_fault
returns-clause-no_read_fault c failed = none_rose (c.gen2run.ensures.read_fault failed).0

pub returns-clause-no_write_fault : goal.returns-clause-no_write_fault
returns-clause-no_write_fault c failed =
    let bad = c.gen2run.ensures.bad_words.1 (λ has. none_rose (c.gen2run.ensures.write_fault has.0 has.1 failed).0) in
    cc
