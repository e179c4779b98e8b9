-- The text of numbers is ASCII.
use Rattle.pie_text.proofs.PairTexts.{fields_ascii}
use Rattle.pie_text.proofs.kept_intervals.KeptIntervals.put_lead.Goals as goal

pub returns-clause-ascii : goal.returns-clause-ascii
returns-clause-ascii c = rw (c.put.ensures.text, c.keep.ensures) (fields_ascii c.args.lead.now c.fits-lead)
