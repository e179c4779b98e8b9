use Rattle.std.proofs.Common.{◌∙◌}
use Rattle.std.proofs.lemmas.Result.{IfOk-equal}
use Rattle.report_lines.proofs.Raising.{listed_more}
use Rattle.report_lines.proofs.seen_counts.SeenCounts.count.Goals as goal

pub returns-clause-listed : goal.returns-clause-listed
returns-clause-listed c = λ pairs is. IfOk-equal _ _ _ _ c.raise.ensures.more (listed_more _ pairs c.args.pc _ _ (c.self.view_is ∙ is) c.in_ok-epc.ensures)
