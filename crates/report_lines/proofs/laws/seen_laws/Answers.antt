use Rattle.report_lines.proofs.SeenLaws.{count_of-few, seen_in-more}
use Rattle.report_lines.proofs.laws.seen_laws.Goals as goal

pub returns-clause-more : goal.returns-clause-more
returns-clause-more c = seen_in-more

pub returns-clause-few : goal.returns-clause-few
returns-clause-few c = count_of-few
