use Rattle.std.proofs.Common.{◌-◌, arith, length-append}
use Rattle.bit_strings.proofs.Digits.{field_more, field_all, same_string}
use Rattle.bit_strings.proofs.bits.Bits.put_field_reserved.Goals as goal

pub loop-places-preserved : goal.loop-places-preserved
loop-places-preserved c =
    let so_far = c.loop-places.invariant.0 in
    rw c.push_reserved.ensures (
      field_more c.loop-places.self.items _ c.args.value c.loop-places.places (c.loop-places.places - 1) (omega arith) so_far,
      simp length-append (omega arith),
      omega arith,
      omega arith,
    )

pub returns : goal.returns
returns c =
    let items = field_all c.loop-places.self.items _ c.args.value c.loop-places.places c.loop-places-test.false c.loop-places.invariant.0 in
    same_string c.loop-places.self _ _ items c.loop-places.invariant.2
