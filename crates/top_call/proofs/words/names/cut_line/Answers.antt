-- One more line is counted.
use Rattle.top_call.proofs.NamedLines.{counts_more}
use Rattle.top_call.proofs.words.names.cut_line.Goals as goal

pub loop-behind-preserved : goal.loop-behind-preserved
loop-behind-preserved c = counts_more _ _ c.in-Some.field-0-0.now c.in-Some.behind.now _ c.loop-behind.invariant c.in-Some.ensures.lines c.in-Some.ensures.cut
