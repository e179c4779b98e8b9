use Rattle.std.proofs.Common.{ℕ, Some, subst}
use Rattle.tag_population.proofs.TagSetBits.{first_word, word_there}
use Rattle.tag_population.specs.TagSets.{IsNextOne}
use Rattle.tag_population.proofs.tag_set.TagSet.from_word.Goals as goal

pub returns : goal.returns
returns c =
    let word = word_there c.self.inside.filled c.self.inside.words.items c.in_ok-at.at c.index.result.now c.self.invariant.1 c.in_ok-at.ensures.1 c.in_ok-at.ensures.2 c.index.ensures in
    rw (← c.self.view_is, c.from_index.ensures)
    (first_word c.self.inside.filled c.self.inside.words.items c.args.from c.in_ok-at.at c.lowest_one-bit.result c.self.invariant c.in_ok-at.ensures
    (subst (λ (n : ℕ). IsNextOne n 0 (Some c.lowest_one-bit.result)) word c.lowest_one-bit.ensures))
