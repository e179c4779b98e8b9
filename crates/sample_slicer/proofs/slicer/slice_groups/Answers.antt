-- Each group that is left is taken as a whole.
use Rattle.std.proofs.Common.{◌+◌, ◌≤◌, length, arith}
use Rattle.sample_slicer.proofs.SlicedSoFar.{sliced_more, pure_before, mixed_here}
use Rattle.sample_slicer.proofs.slicer.slice_groups.Goals as goal

pub returns-in_default-clause-refused : goal.returns-in_default-clause-refused
returns-in_default-clause-refused c =
    let so_far = c.loop-place.invariant.so_far in
    mixed_here _ _ _ c.loop-place.out.items _ so_far (omega (arith, so_far.within)) c.in_default.ensures.mixed

pub push_reserved-requires : goal.push_reserved-requires
push_reserved-requires c = omega (arith, c.loop-place.invariant.so_far.few, c.loop-place.invariant.capacity, c.loop-place-test.true)

pub loop-place-preserved : goal.loop-place-preserved
loop-place-preserved c =
    let so_far = c.loop-place.invariant.so_far in
    let room : c.loop-place.place + c.args.per ≤ length c.args.samples.now = omega (arith, so_far.within) in
    rw c.push_reserved.ensures (record {
      so_far = sliced_more _ _ _ _ _ _ c.requires.least so_far (record { whole = room; pure = c.in-Some.ensures.pure });
      capacity = c.loop-place.invariant.capacity;
    })

pub returns-then-place-samples-clause-refused : goal.returns-then-place-samples-clause-refused
returns-then-place-samples-clause-refused c =
    let so_far = c.loop-place.invariant.so_far in
    record {
      group = length c.loop-place.out.items;
      begins = so_far.stands;
      some = c.if-place-samples.true;
      short = omega (arith, so_far.within);
      before = pure_before _ _ _ _ _ so_far;
    }
