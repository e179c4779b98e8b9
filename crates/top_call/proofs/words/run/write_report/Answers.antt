use Rattle.std.proofs.Common.{◌∙◌, Err, ap}
use Rattle.std.proofs.lemmas.Result.{err_from_is_err_and}
use Rattle.top_call.specs.declared.forms.Form.TheVariants.{Run}
use Rattle.top_call.specs.words.Run.{run_job}
use Rattle.top_call.proofs.Ends.{cut_off}
use Rattle.top_call.proofs.RunEnds.{front_of_report}
use Rattle.top_call.proofs.words.run.write_report.Goals as goal

pub returns-in_err-play-in-Ok : goal.returns-in_err-play-in-Ok
returns-in_err-play-in-Ok g c =
    let read = c.in-Ok.ensures.ok in
    let cut = c.in_err-play-in-Ok.ensures in
    let end = err_from_is_err_and c.from_residual-in_err-play-in-Ok.result c.from_residual-in_err-play-in-Ok.ensures.1 in
    cut_off (run_job c.args.mode) _ (record { written = _; written' = _; writes = _; writes' = _ }) c.in_err-play-in-Ok.field-0.0 _ (end.1 ∙ ap Err end.2)
    (λ is. cut.write (ap Err is)) (λ is. cut.memory (ap Err is)) (front_of_report c.args.mode _ (c.in-Ok.scenario, read.0, read.1) _ _ cut.part)

pub returns-in-Err : goal.returns-in-Err
returns-in-Err g c = c.write_refusal.ensures (Run c.args.mode) c.args.input.now _ c.in-Err.ensures.refused (λ line refuses. refuses)
