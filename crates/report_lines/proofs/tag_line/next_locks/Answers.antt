use Rattle.std.proofs.lemmas.Result.{IfOk-equal}
use Rattle.report_lines.proofs.Pieces.{one_field}
use Rattle.report_lines.proofs.tag_line.next_locks.Goals as goal

pub returns : goal.returns
returns c = IfOk-equal _ _ _ _ c.push_locks.ensures (one_field _ _ _ c.in_ok-push_str.ensures.bytes)
