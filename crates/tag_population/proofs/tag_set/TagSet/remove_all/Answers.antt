use Rattle.tag_population.proofs.TagSetBits.{emptied_none}
use Rattle.tag_population.proofs.tag_set.TagSet.remove_all.Goals as goal

pub loop-tag-init : goal.loop-tag-init
loop-tag-init c = emptied_none c.args.self.now c.args.tags.now c.requires.all
