use Rattle.std.proofs.Common.{◌≡◌, length, take}
use Rattle.line_code.specs.States.{Reads}
use Rattle.line_code.proofs.Whole.{HasBehind}
use Rattle.line_code.proofs.decoder.read.Given as goal

abbrev pub invariant-loop-sixteen : goal.invariant-loop-sixteen
invariant-loop-sixteen g l = HasBehind g.C.LineCode.table l.trext l.levels l.behind (g.C.LineCode.context_of l.mark) l.initial.out l.out

abbrev pub decreases-loop-sixteen : goal.decreases-loop-sixteen
decreases-loop-sixteen g l = length l.behind

abbrev pub invariant-loop-bit : goal.invariant-loop-bit
invariant-loop-bit g l = HasBehind g.C.LineCode.table l.trext l.levels l.behind (g.C.LineCode.context_of l.mark) l.initial.out l.out

abbrev pub decreases-loop-bit : goal.decreases-loop-bit
decreases-loop-bit g l = length l.behind

abbrev pub invariant-loop-place : goal.invariant-loop-place
invariant-loop-place g l = record {
  reads : Reads g.C.LineCode.table l.trext l.inside (take l.place l.levels) l.out.items;
  same : l.out.capacity ≡ l.initial.out.capacity;
}
