-- The answers, or the line of the first fault.
use Rattle.top_call.specs.words.Decode.{decode_job}
use Rattle.top_call.proofs.Ends.{ends_so}
use Rattle.top_call.proofs.words.decode.write_answered.Goals as goal

pub returns-in-Ok : goal.returns-in-Ok
returns-in-Ok g c = λ input ok refused. ends_so decode_job input _ _ _ _ c.write_text.ensures (rw c.as_bytes.ensures.value (rw c.in-Ok.is at ok))

pub returns-in-Err : goal.returns-in-Err
returns-in-Err g c = λ input ok refused.
    ends_so decode_job input _ _ _ _ c.write_text-in-Err.ensures
    (rw c.as_slice.ensures.value (record { number = c.in-Err.fault.line; reason = c.in-Err.fault.reason; first = rw c.in-Err.is at refused; line = c.fault_text-line.ensures }))
