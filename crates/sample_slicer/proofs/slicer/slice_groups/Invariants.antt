use Rattle.std.proofs.Common.{◌≡◌, ◌-◌, length}
use Rattle.sample_slicer.specs.SlicedTo.{SlicedTo}
use Rattle.sample_slicer.proofs.slicer.slice_groups.Given as goal

abbrev pub invariant-loop-out : goal.invariant-loop-out
invariant-loop-out l = record {
  so_far : SlicedTo l.threshold l.per l.samples l.out.items l.place;
  capacity : l.out.capacity ≡ l.fn.out.capacity;
}

abbrev pub decreases-loop-out : goal.decreases-loop-out
decreases-loop-out l = length l.samples - l.place

abbrev pub invariant-loop-place : goal.invariant-loop-place
invariant-loop-place l = record {
  so_far : SlicedTo l.threshold l.per l.samples l.out.items l.place;
  capacity : l.out.capacity ≡ l.fn.out.capacity;
}

abbrev pub decreases-loop-place : goal.decreases-loop-place
decreases-loop-place l = length l.samples - l.place
