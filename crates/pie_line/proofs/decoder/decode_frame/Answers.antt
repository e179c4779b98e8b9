use Rattle.std.proofs.Common.{sym, ◌∙◌}
use Rattle.pie_line.proofs.Decoding.{refused-no_frame}
use Rattle.pie_line.proofs.decoder.decode_frame.Goals as goal

pub returns-then-is_err-clause-only : goal.returns-then-is_err-clause-only
returns-then-is_err-clause-only c = rw (← c.as_slice.ensures.value) (λ kind bits f.
    let call = c.decode_intervals-result in
    absurd (refused-no_frame call.result c.as_slice.result.now (sym c.is_err.ensures.value ∙ c.if-is_err.true) call.ensures.refused (kind, bits, f)))
