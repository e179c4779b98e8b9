use Rattle.std.proofs.lemmas.Result.{IfOk-equal}
use Rattle.tag_machine.specs.Hearing.{tag_value_of}
use Rattle.report_lines.proofs.Pieces.{tag_line}
use Rattle.report_lines.proofs.tag_line.push_tag_line.Goals as goal

pub returns : goal.returns
returns c = IfOk-equal _ _ _ _ c.end_line.ensures
    (tag_line _ _ _ c.args.number (tag_value_of c.args.tag.now) (rw (c.state.ensures.value, c.flags.ensures, c.locks.ensures) at c.in_ok-push_standing.ensures)
    (rw c.memory.ensures at c.in_ok-next_banks.ensures))
