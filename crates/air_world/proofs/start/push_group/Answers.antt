use Rattle.air_world.proofs.Copies.{next-copy, one-pushed}
use Rattle.air_world.proofs.start.push_group.Goals as goal

pub loop-number-preserved : goal.loop-number-preserved
loop-number-preserved c =
    next-copy c.loop-number.number c.args.group.now.spec _ _ _ c.loop-number.auto.number c.loop-number.invariant
    (one-pushed _ _ c.in_ok-new_copy.field-0 _ c.in_ok-push-2.ensures.items c.in_ok-new_copy.ensures)
