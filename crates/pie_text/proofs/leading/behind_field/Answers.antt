-- The text is cut at the space.
use Rattle.pie_text.proofs.LeadingNumbers.{cut_field, last_field}
use Rattle.pie_text.proofs.leading.behind_field.Goals as goal

pub returns-then-end-text-clause-fields : goal.returns-then-end-text-clause-fields
returns-then-end-text-clause-fields c = λ lacks. cut_field c.args.text.now c.args.end c.if-end-text.true c.requires lacks

pub returns-else-end-text-clause-fields : goal.returns-else-end-text-clause-fields
returns-else-end-text-clause-fields c = λ lacks. last_field c.args.text.now c.args.end c.if-end-text.false lacks
