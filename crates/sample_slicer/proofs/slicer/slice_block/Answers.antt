-- The mask tells the levels of the groups of a block one after the other.
use Rattle.std.proofs.Common.{◌≡◌, ◌+◌, ◌-◌, ◌^◌, ◌≤◌, length, take, drop, refl, arith, ap, sym, ◌∙◌}
use Rattle.std.proofs.lemmas.List.{length-drop, length-take-le, take_all}
use Rattle.std.specs.List.{slice_range}
use Rattle.sample_slicer.specs.Masks.{sample_mask_of}
use Rattle.sample_slicer.proofs.Masks.{LeftOfBlock, all_bits, group_length, group_mask, behind_mask}
use Rattle.sample_slicer.proofs.SlicedSoFar.{sliced_more, mixed_here}
use Rattle.sample_slicer.proofs.slicer.slice_block.Goals as goal

pub loop-at-init : goal.loop-at-init
loop-at-init c =
    let start = c.args.start in
    let samples = c.args.samples.now in
    let block = slice_range samples start (start + 32) in
    let few : length block ≤ 32 = omega (arith, length-take-le (start + 32 - start) (drop start samples) (rw length-drop (omega (arith, c.requires.block)))) in
    record {
      so_far = c.requires.so_far;
      capacity = refl;
      onward = omega arith;
      within = omega arith;
      mask = c.high_samples-mask.ensures ∙ ap (sample_mask_of c.args.threshold) (take_all 32 block few);
    }

pub returns-in_default-clause-refused : goal.returns-in_default-clause-refused
returns-in_default-clause-refused c =
    let so_far = c.loop-at.invariant.so_far in
    let place = c.loop-at.at in
    let left = c.args.start + 32 - place in
    let within : c.args.per ≤ left = c.loop-at-test.true in
    let room : place + left ≤ length c.args.samples.now = omega (arith, c.requires.block, c.loop-at.invariant.within) in
    let whole : place + c.args.per ≤ length c.args.samples.now = omega (arith, room, within) in
    let all = all_bits c.args.per c.requires.most in
    let left_is : LeftOfBlock c.args.threshold c.args.per place left c.loop-at.mask c.args.samples.now = record { mask_is = c.loop-at.invariant.mask; within = room; some = within } in
    let mask = group_mask c.args.threshold c.args.per place left c.loop-at.mask _ c.args.samples.now left_is all in
    let bits = all ∙ ap (λ n. 2 ^ n) (sym (group_length c.args.per place c.args.samples.now whole)) in
    mixed_here _ _ _ c.loop-at.out.items _ so_far whole (c.in_default.ensures.mixed c.args.threshold _ mask bits)

pub push_reserved-requires : goal.push_reserved-requires
push_reserved-requires c =
    let room : c.loop-at.at + (c.args.start + 32 - c.loop-at.at) ≤ length c.args.samples.now = omega (arith, c.requires.block, c.loop-at.invariant.within) in
    omega (arith, c.loop-at.invariant.so_far.few, c.loop-at.invariant.capacity, c.requires.least, c.requires.room, room, c.loop-at-test.true)

pub loop-at-preserved : goal.loop-at-preserved
loop-at-preserved c =
    let so_far = c.loop-at.invariant.so_far in
    let place = c.loop-at.at in
    let left = c.args.start + 32 - place in
    let within : c.args.per ≤ left = c.loop-at-test.true in
    let room : place + left ≤ length c.args.samples.now = omega (arith, c.requires.block, c.loop-at.invariant.within) in
    let whole : place + c.args.per ≤ length c.args.samples.now = omega (arith, room, within) in
    let all = all_bits c.args.per c.requires.most in
    let left_is : LeftOfBlock c.args.threshold c.args.per place left c.loop-at.mask c.args.samples.now = record { mask_is = c.loop-at.invariant.mask; within = room; some = within } in
    let mask = group_mask c.args.threshold c.args.per place left c.loop-at.mask _ c.args.samples.now left_is all in
    let bits = all ∙ ap (λ n. 2 ^ n) (sym (group_length c.args.per place c.args.samples.now whole)) in
    let size : left - c.args.per ≡ c.args.start + 32 - (place + c.args.per) = omega (arith, within) in
    rw c.push_reserved.ensures (record {
      so_far = sliced_more _ _ _ _ _ _ c.requires.least so_far (record { whole = whole; pure = c.in-Some.ensures.pure c.args.threshold _ mask bits });
      capacity = c.loop-at.invariant.capacity;
      onward = omega (arith, c.loop-at.invariant.onward);
      within = omega (arith, within, c.loop-at.invariant.within);
      mask = behind_mask c.args.threshold c.args.per place left c.loop-at.mask c.args.samples.now left_is
          ∙ ap (λ n. sample_mask_of c.args.threshold (take n (drop (place + c.args.per) c.args.samples.now))) size;
    })
