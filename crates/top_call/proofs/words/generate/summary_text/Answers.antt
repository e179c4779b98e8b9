use Rattle.std.proofs.Common.{◌∷◌, ◌++◌, [], codes}
use Rattle.std.specs.Fmt.{decimal}
use Rattle.top_call.specs.words.Generate.{end_line}
use Rattle.top_call.proofs.SummaryLines.{six_joined}
use Rattle.top_call.proofs.words.generate.summary_text.Goals as goal

pub returns : goal.returns
returns c =
    let summary = c.args.summary.now in
    rw (c.push_bytes-2.ensures.bytes, c.push_bytes.ensures.bytes, c.push_count-4.ensures.bytes, c.push_count-3.ensures.bytes, c.push_count-2.ensures.bytes, c.push_count.ensures.bytes, c.end_line.ensures.line, c.new-text.ensures, c.from.ensures)
    (six_joined (codes "tags " ++ decimal summary.tags ++ 10 ∷ []) (codes "listed " ++ decimal summary.listed ++ 10 ∷ []) (codes "distinct " ++ decimal summary.distinct ++ 10 ∷ [])
    (codes "slots " ++ decimal summary.slots ++ 10 ∷ []) (end_line summary.quiet ++ 10 ∷ []) (codes "done" ++ 10 ∷ []))
