use Rattle.report_lines.proofs.OneName.{same_text}
use Rattle.report_lines.proofs.SomeName.{some_lines}
use Rattle.report_lines.proofs.laws.lines_have_names.Goals as goal

pub returns : goal.returns
returns c = record { some = some_lines c.sgtin_laws.ensures.apart c.sgtin_laws.ensures.some; one = same_text c.sgtin_laws.ensures.one_sgtin }
