use Rattle.std.proofs.lemmas.Result.{IfOk-equal}
use Rattle.report_lines.proofs.Pieces.{sent_intervals}
use Rattle.report_lines.proofs.line_writing.push_tx_line.Goals as goal

pub returns : goal.returns
returns c = IfOk-equal _ _ _ _ c.end_line.ensures
    (sent_intervals _ _ _ _ c.args.exchange c.args.intervals.now c.in_ok-push_str.ensures.bytes c.in_ok-push_next_long_number.ensures c.in_ok-push_next.ensures)
