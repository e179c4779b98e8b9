use Rattle.std.proofs.lemmas.Result.{IfOk-equal}
use Rattle.report_lines.proofs.Pieces.{five_fields}
use Rattle.report_lines.proofs.tag_line.push_standing.Goals as goal

pub returns : goal.returns
returns c = IfOk-equal _ _ _ _ c.next_locks.ensures
    (five_fields _ _ _ _ _ _ _ _ _ _ c.in_ok-push_str.ensures.bytes c.in_ok-push_next_number.ensures c.in_ok-push_next_state.ensures c.in_ok-push_next_flags.ensures)
