use Rattle.top_call.specs.Jobs.{job_of}
use Rattle.top_call.proofs.Ends.{ends_so}
use Rattle.top_call.proofs.words.refusal.write_refusal.Goals as goal

pub returns-in-Line : goal.returns-in-Line
returns-in-Line g c = λ form bytes text refused refuses.
    let here = c.in-Line in
    ends_so (job_of form) bytes _ _ _ _ c.write_text.ensures
    (rw c.as_slice.ensures.value (refuses _ (record { number = here.fault.line; fault = here.fault.reason; first = rw here.is at refused; line = c.fault_text-line.ensures })))
