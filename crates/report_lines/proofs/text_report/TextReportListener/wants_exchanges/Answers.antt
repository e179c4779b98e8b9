use Rattle.report_lines.proofs.Skipping.{hears-skipped}
use Rattle.report_lines.proofs.text_report.TextReportListener.wants_exchanges.Goals as goal

pub returns : goal.returns
returns g c = λ unwanted first lines line of hears. (
  hears.0,
  hears-skipped g.S.Spelling.text_of g.S.Spelling.behind lines line _ _ _ _ _ _ _ _ (c.wants_exchanges.ensures unwanted line of) hears.1,
)
