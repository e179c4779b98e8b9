use Rattle.std.proofs.Common.{drop, take, sym, ◌∙◌}
use Rattle.std.proofs.lemmas.List.{take-append-drop}
use Rattle.bench_lines.proofs.playing.write_text.Goals as goal

pub returns-in-Err-clause-failed : goal.returns-in-Err-clause-failed
returns-in-Err-clause-failed g c =
    let part = c.in-Err.ensures.part in
    let bytes = c.as_bytes.result.now in
    (c.in-Err.ensures.failed, record { front = take part.0 bytes; rest = drop part.0 bytes; cut = sym c.as_bytes.ensures.value ∙ sym (take-append-drop part.0 bytes); added = part.2 })
