use Rattle.air_world.proofs.Passing.{tells-then}
use Rattle.air_world.proofs.run.Run.finish.Goals as goal

pub returns-clause-told : goal.returns-clause-told
returns-clause-told g c = tells-then (tells-then c.tell_counts.ensures c.tell_tags.ensures.told) (record { on = c.tell.ensures })
