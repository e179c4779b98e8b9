use Rattle.tag_population.proofs.TagSetBits.{removed, removed_other, emptied_set}
use Rattle.tag_population.proofs.tag_set.TagSet.remove.Goals as goal

pub invariant_of-self : goal.invariant_of-self
invariant_of-self c =
    emptied_set c.self.inside.filled c.self.inside.words.items c.index-number.result _ c.self.invariant (rw c.index-number.ensures.value c.index-number.ensures.range) c.if-word-eq0.true

pub returns-then-word-eq0-clause-others : goal.returns-then-word-eq0-clause-others
returns-then-word-eq0-clause-others c = λ other apart.
    rw (← c.self.view_is)
    (removed_other c.self.inside.words.items c.index-number.result c.index.result.now other c.self.invariant.0 (rw c.index-number.ensures.value c.index-number.ensures.range) c.index.ensures
    (rw c.index-number.ensures.value apart))

pub returns-else-word-eq0-clause-there : goal.returns-else-word-eq0-clause-there
returns-else-word-eq0-clause-there c =
    rw (← c.index-number.ensures.value)
    (removed c.self.inside.words.items c.index-number.result c.index.result.now c.self.invariant.0 (rw c.index-number.ensures.value c.index-number.ensures.range))

pub returns-else-word-eq0-clause-others : goal.returns-else-word-eq0-clause-others
returns-else-word-eq0-clause-others c = λ other apart.
    rw (← c.self.view_is)
    (removed_other c.self.inside.words.items c.index-number.result c.index.result.now other c.self.invariant.0 (rw c.index-number.ensures.value c.index-number.ensures.range) c.index.ensures
    (rw c.index-number.ensures.value apart))
