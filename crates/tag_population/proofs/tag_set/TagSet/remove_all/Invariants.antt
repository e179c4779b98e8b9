use Rattle.tag_population.proofs.TagSetBits.{EmptiedBelow}
use Rattle.tag_population.proofs.tag_set.TagSet.remove_all.Given as goal

abbrev pub invariant-loop-tag : goal.invariant-loop-tag
invariant-loop-tag l = EmptiedBelow l.self l.tags l.tag-index
