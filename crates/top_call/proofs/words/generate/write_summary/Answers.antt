-- The summary.
use Rattle.std.proofs.Common.{◌∙◌, ap}
use Rattle.runs.specs.Summary.{summary_of}
use Rattle.top_call.specs.words.Generate.{gen_job, summary_text}
use Rattle.top_call.proofs.Ends.{ends_so}
use Rattle.top_call.proofs.words.generate.write_summary.Goals as goal

pub returns : goal.returns
returns g c = λ bytes.
    ends_so (gen_job c.args.seed c.args.tags) bytes _ _ _ _ c.write_text.ensures
    (rw c.as_slice.ensures.value (c.summary_text-text.ensures ∙ ap summary_text (c.in_ok-summary.ensures.counts ∙ ap summary_of c.in_ok-scenario.ensures.scenario)))
