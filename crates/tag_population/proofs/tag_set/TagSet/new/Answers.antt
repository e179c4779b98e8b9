use Rattle.tag_population.proofs.TagSetBits.{none_in}
use Rattle.tag_population.proofs.tag_set.TagSet.new.Goals as goal

pub returns : goal.returns
returns c = λ number. none_in c.in_ok-words.words.items _ number (c.in_ok-words.ensures.items_if_clones_equal (λ y is. is))
