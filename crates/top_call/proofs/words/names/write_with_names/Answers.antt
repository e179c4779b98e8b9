-- The fault line.
use Rattle.top_call.specs.words.Names.{names_job}
use Rattle.top_call.proofs.Ends.{ends_so, no_memory_taken}
use Rattle.top_call.proofs.words.names.write_with_names.Goals as goal

pub returns-in-Some-clause-ends : goal.returns-in-Some-clause-ends
returns-in-Some-clause-ends g c =
    ends_so names_job c.args.input.now _ _ _ _ c.write_text.ensures
    (rw c.as_slice.ensures.value (record { number = c.in-Some.number; at = c.in-Some.ensures.some; line = c.fault_line-line.ensures }))

pub returns-in-Some-clause-memory : goal.returns-in-Some-clause-memory
returns-in-Some-clause-memory g c = no_memory_taken _ _ _ _ c.write_text.ensures
