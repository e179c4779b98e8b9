use Rattle.std.proofs.Common.{◌-◌, length}
use Rattle.line_code.proofs.Writing.{HasWritten}
use Rattle.line_code.proofs.encoder.encode.Given as goal

abbrev pub invariant-loop-four : goal.invariant-loop-four
invariant-loop-four g l = HasWritten g.C.LineCode.table l.trext l.bits l.next (g.C.LineCode.context_of l.mark) l.initial.levels l.levels

abbrev pub decreases-loop-four : goal.decreases-loop-four
decreases-loop-four g l = length l.bits - l.next

abbrev pub invariant-loop-next : goal.invariant-loop-next
invariant-loop-next g l = HasWritten g.C.LineCode.table l.trext l.bits l.next (g.C.LineCode.context_of l.mark) l.initial.levels l.levels

abbrev pub decreases-loop-next : goal.decreases-loop-next
decreases-loop-next g l = length l.bits - l.next
