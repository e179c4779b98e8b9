use Rattle.std.proofs.Common.{◌≡◌, ◌-◌, length}
use Rattle.pie_line.specs.Edges.{EdgesHaveReadTo}
use Rattle.pie_line.proofs.decoder.decode_intervals.Given as goal

-- the decoder was given the intervals so far, and their bits were read
abbrev pub invariant-loop-at : goal.invariant-loop-at
invariant-loop-at l = record {
  given : EdgesHaveReadTo l.edges l.out.items l.intervals l.at;
  capacity : l.out.capacity ≡ l.fn.out.capacity;
}

abbrev pub decreases-loop-at : goal.decreases-loop-at
decreases-loop-at l = length l.intervals - l.at
