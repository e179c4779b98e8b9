use Rattle.air_world.proofs.Names.{[], seen_line}
use Rattle.air_world.proofs.Passing.{tells-nothing}
use Rattle.air_world.proofs.Saying.{tells-more}
use Rattle.air_world.proofs.run.end.tell_counts.Goals as goal

pub loop-at-init : goal.loop-at-init
loop-at-init g c = record { told = tells-nothing }

pub loop-at-preserved : goal.loop-at-preserved
loop-at-preserved g c =
    record { told = tells-more seen_line [] c.args.seen.now c.loop-at.at _ c.in-Some.ensures.value c.loop-at.invariant.told (record { on = c.tell.ensures }) }
