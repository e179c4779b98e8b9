-- The line that was made waits, is written, or is lost.
use Rattle.top_call.proofs.EncodedLines.{unmade_line}
use Rattle.top_call.proofs.Waits.{on_failure}
use Rattle.top_call.proofs.words.encode.put_encoded.Goals as goal

pub returns-in_err-encode_line-clause-lost : goal.returns-in_err-encode_line-clause-lost
returns-in_err-encode_line-clause-lost g c =
    on_failure c.from_residual.result (unmade_line c.requests_have_a_line.ensures c.args.line.now c.args.page.now _ c.requires)
