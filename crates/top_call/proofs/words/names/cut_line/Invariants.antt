use Rattle.std.proofs.Common.{length}
use Rattle.top_call.proofs.NamedLines.{CountsTo}
use Rattle.top_call.proofs.words.names.cut_line.Given as goal

abbrev pub invariant-loop-behind : goal.invariant-loop-behind
invariant-loop-behind l = CountsTo l.input l.rest l.number

abbrev pub decreases-loop-behind : goal.decreases-loop-behind
decreases-loop-behind l = length l.rest
