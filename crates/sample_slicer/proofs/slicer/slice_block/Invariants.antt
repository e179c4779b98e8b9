use Rattle.std.proofs.Common.{◌≡◌, ◌≤◌, ◌-◌, take, drop}
use Rattle.sample_slicer.specs.Masks.{sample_mask_of}
use Rattle.sample_slicer.specs.SlicedTo.{SlicedTo}
use Rattle.sample_slicer.proofs.slicer.slice_block.Given as goal

-- the mask stands for the samples from the place on to the end of the block
abbrev pub invariant-loop-at : goal.invariant-loop-at
invariant-loop-at l = record {
  so_far : SlicedTo l.threshold l.per l.samples l.out.items l.at;
  capacity : l.out.capacity ≡ l.fn.out.capacity;
  onward : l.start ≤ l.at;
  within : l.at ≤ l.end;
  mask : l.mask ≡ sample_mask_of l.threshold (take (l.end - l.at) (drop l.at l.samples));
}

abbrev pub decreases-loop-at : goal.decreases-loop-at
decreases-loop-at l = l.end - l.at
