-- The digits spell the bits that are read, and no others.
use Rattle.std.proofs.Common.{◌≡◌, ◌≢◌, ◌<◌, ◌∷◌, [], length, ap, arith, rules}
use Rattle.std.proofs.lemmas.Grind.{common_steps}
use Rattle.std.proofs.lemmas.List.{length-append}
use Rattle.wire_text.proofs.MaskDigits.{all_read, all_spelled, one_more_read, stuck, too_many}
use Rattle.wire_text.proofs.EmptyTexts.{is_nothing, is_something}
use Rattle.wire_text.proofs.command_lists.mask_of_digits.Goals as goal

pub returns-then-is_err-clause-only : goal.returns-then-is_err-clause-only
returns-then-is_err-clause-only c = λ bits few spells.
    let full : length c.loop-bit.mask ≡ 255 = search rules in
    too_many c.args.digits.now c.loop-bit.rest.now c.loop-bit.mask bits c.loop-bit.invariant.spelled
    (omega (arith, ap length c.in-Some.ensures.value)) full few spells

pub loop-bit-preserved : goal.loop-bit-preserved
loop-bit-preserved c =
    let not_full : length c.loop-bit.mask ≢ 255 = λ full. grind (arith, common_steps, c.push.ensures.full.1 full) in
    let few = c.loop-bit.invariant.few in
    let room : length c.loop-bit.mask < 255 = omega arith in
    let pushed = c.push.ensures.room room in
    record {
      spelled = one_more_read c.args.digits.now c.loop-bit.rest.now c.in-Some.behind.now c.loop-bit.mask c.push.new.self c.in-Some.bit
          c.loop-bit.invariant.spelled c.in-Some.ensures.value pushed;
      few = omega (arith, ap length pushed, length-append c.loop-bit.mask (c.in-Some.bit ∷ []));
    }

pub returns-then-is_empty-clause-only : goal.returns-then-is_empty-clause-only
returns-then-is_empty-clause-only c = λ bits few spells.
    let none = is_nothing c.loop-bit.rest.now _ c.is_empty.ensures c.if-is_empty.true in
    all_read c.args.digits.now c.loop-bit.mask bits (all_spelled c.args.digits.now c.loop-bit.rest.now c.loop-bit.mask c.loop-bit.invariant.spelled none) spells

pub returns-else-is_empty-clause-only : goal.returns-else-is_empty-clause-only
returns-else-is_empty-clause-only c = λ bits few spells.
    let some = is_something c.loop-bit.rest.now _ c.is_empty.ensures c.if-is_empty.false in
    stuck c.args.digits.now c.loop-bit.rest.now c.loop-bit.mask bits c.loop-bit.invariant.spelled spells some c.in_default.ensures.none
