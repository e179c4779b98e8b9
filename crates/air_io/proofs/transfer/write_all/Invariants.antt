use Rattle.std.proofs.Common.{◌≡◌, length, ◌-◌, ◌≤◌, take}
use Rattle.air_io.specs.Flow.{Adds}
use Rattle.air_io.proofs.transfer.write_all.Given as goal

-- the first `done` bytes of the piece were added
abbrev pub invariant-loop-done : goal.invariant-loop-done
invariant-loop-done g l = record {
  within : l.done ≤ length l.piece;
  added : Adds (g.O.Sink.written l.initial.out) (g.O.Sink.written l.out) (take l.done l.piece);
  count : g.O.Sink.faults l.out ≡ g.O.Sink.faults l.initial.out;
}

abbrev pub decreases-loop-done : goal.decreases-loop-done
decreases-loop-done g l = length l.piece - l.done
