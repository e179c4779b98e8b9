-- The digits are written from the last one on.
use Rattle.std.proofs.Common.{◌-◌, arith, length-set}
use Rattle.epc_sgtin.proofs.Padded.{none_written, one_written, all_written}
use Rattle.epc_sgtin.proofs.digits.write_digits.Goals as goal

pub loop-place-init : goal.loop-place-init
loop-place-init c = (none_written c.args.digits.now c.args.value, omega arith)

pub loop-place-preserved : goal.loop-place-preserved
loop-place-preserved c = (
  one_written c.loop-place.digits c.args.value c.loop-place.rest c.loop-place.place (c.loop-place.place - 1) (omega arith) c.loop-place.invariant.1 c.loop-place.invariant.0,
  simp length-set (omega arith),
)

pub returns : goal.returns
returns c =
    let all = all_written c.loop-place.digits c.args.value c.loop-place.rest c.loop-place.place c.loop-place-test.false c.loop-place.invariant.0 in
    rw c.loop-place.auto.digits at all
