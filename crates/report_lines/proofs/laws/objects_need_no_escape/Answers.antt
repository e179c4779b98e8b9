use Rattle.report_lines.proofs.JsonLaws.{plain_pairs}
use Rattle.report_lines.proofs.laws.objects_need_no_escape.Goals as goal

pub returns : goal.returns
returns c = plain_pairs
