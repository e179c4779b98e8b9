use Rattle.tag_population.proofs.TagSetBits.{filled_none, filled_more, filled_all}
use Rattle.tag_population.proofs.tag_set.TagSet.insert_all.Goals as goal

pub loop-tag-init : goal.loop-tag-init
loop-tag-init c = filled_none c.args.self.now c.args.tags.now c.requires.none

pub loop-tag-preserved : goal.loop-tag-preserved
loop-tag-preserved c =
    filled_more c.loop-tag.self c.insert.new.self c.args.tags.now c.loop-tag.tag-index c.of.result c.loop-tag.invariant c.loop-tag-test.true c.of.ensures
    (record { there = c.insert.ensures.there; others = c.insert.ensures.others })

pub returns : goal.returns
returns c = filled_all c.loop-tag.self c.args.tags.now c.loop-tag.tag-index c.loop-tag.invariant c.loop-tag-test.false
