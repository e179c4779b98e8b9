-- The line of the first fault.
use Rattle.top_call.specs.words.Encode.{encode_job}
use Rattle.top_call.proofs.Ends.{ends_so}
use Rattle.top_call.proofs.words.encode.write_encoded.Goals as goal

pub returns-in-Err : goal.returns-in-Err
returns-in-Err g c =
    let fault = c.in-Err.fault in
    ends_so encode_job c.args.input.now _ _ _ _ c.write_text.ensures
    (rw c.as_slice.ensures.value (record { number = fault.line; reason = fault.reason; first = c.in-Err.ensures.refused; line = c.fault_text-line.ensures }))
