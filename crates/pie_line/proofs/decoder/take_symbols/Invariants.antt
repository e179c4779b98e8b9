use Rattle.std.proofs.Common.{◌≡◌, ◌-◌, ◌≤◌, length}
use Rattle.pie_line.specs.Edges.{EdgesHaveReadTo}
use Rattle.pie_line.proofs.decoder.take_symbols.Given as goal

abbrev pub invariant-loop-at : goal.invariant-loop-at
invariant-loop-at l = record {
  given : EdgesHaveReadTo l.edges l.out.items l.intervals l.at;
  further : l.fn.from ≤ l.at;
  capacity : l.out.capacity ≡ l.fn.out.capacity;
}

abbrev pub decreases-loop-at : goal.decreases-loop-at
decreases-loop-at l = length l.intervals - l.at
