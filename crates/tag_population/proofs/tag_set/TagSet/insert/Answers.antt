use Rattle.tag_population.proofs.TagSetBits.{inserted, inserted_other, inserted_set}
use Rattle.tag_population.proofs.tag_set.TagSet.insert.Goals as goal

pub invariant_of-self : goal.invariant_of-self
invariant_of-self c =
    inserted_set c.self.inside.filled c.self.inside.words.items c.index-number.result c.index_mut.result.now c.self.invariant (rw c.index-number.ensures.value c.index-number.ensures.range)

pub returns-clause-there : goal.returns-clause-there
returns-clause-there c =
    rw (← c.index-number.ensures.value)
    (inserted c.self.inside.words.items c.index-number.result c.index_mut.result.now c.self.invariant.0 (rw c.index-number.ensures.value c.index-number.ensures.range))

pub returns-clause-others : goal.returns-clause-others
returns-clause-others c = λ other apart.
    rw (← c.self.view_is)
    (inserted_other c.self.inside.words.items c.index-number.result c.index_mut.result.now other c.self.invariant.0 (rw c.index-number.ensures.value c.index-number.ensures.range)
    c.index_mut.ensures.value (rw c.index-number.ensures.value apart))
