use Rattle.tag_population.proofs.TagSetBits.{FilledBelow}
use Rattle.tag_population.proofs.tag_set.TagSet.insert_all.Given as goal

abbrev pub invariant-loop-tag : goal.invariant-loop-tag
invariant-loop-tag l = FilledBelow l.self l.tags l.tag-index
