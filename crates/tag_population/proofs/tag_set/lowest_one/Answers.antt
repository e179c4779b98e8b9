use Rattle.tag_population.proofs.TagSetBits.{lowest_there}
use Rattle.tag_population.proofs.tag_set.lowest_one.Goals as goal

pub returns : goal.returns
returns c = lowest_there c.args.word c.requires c.ranges.word.fits
