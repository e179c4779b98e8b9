-- What comes of the probe, or the line of the first fault.
use Rattle.std.proofs.Common.{rules}
use Rattle.top_call.specs.words.Probe.{probe_job}
use Rattle.top_call.proofs.ProbeEnds.{play_failed, played_whole}
use Rattle.top_call.proofs.Ends.{ends_so}
use Rattle.top_call.proofs.words.probe.write_probed.Goals as goal

pub play-requires-clause-tag : goal.play-requires-clause-tag
play-requires-clause-tag g c = c.in-Ok.ensures.tag

pub play-requires-clause-said : goal.play-requires-clause-said
play-requires-clause-said g c = let read = c.in-Ok.ensures.ok in (read.0, read.2)

pub returns-in_err-play-in-Ok : goal.returns-in_err-play-in-Ok
returns-in_err-play-in-Ok g c =
    let read = c.in-Ok.ensures.ok in
    play_failed c.args.input.now c.in-Ok.probe.tag read.0 (record { written = _; written' = _; writes = _; writes' = _ }) c.in_err-play-in-Ok.field-0.0 _ (search rules) read.1 (c.in_err-play-in-Ok.ensures read.0 read.2)

pub returns-in_ok-play-in-Ok : goal.returns-in_ok-play-in-Ok
returns-in_ok-play-in-Ok g c =
    let read = c.in-Ok.ensures.ok in
    played_whole c.args.input.now c.in-Ok.probe.tag read.0
    (record { written = _; written' = _; writes = _; writes' = _ }) c.in_ok-play-in-Ok.field-0 read.1 (c.in_ok-play-in-Ok.ensures read.0 read.2)

pub returns-in-Err : goal.returns-in-Err
returns-in-Err g c =
    let fault = c.in-Err.fault in
    ends_so probe_job c.args.input.now _ _ _ _ c.write_text.ensures
    (rw c.as_slice.ensures.value (record { number = fault.line; reason = fault.reason; first = c.in-Err.ensures.refused; line = c.fault_text-line.ensures }))
