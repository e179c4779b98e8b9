use Rattle.std.proofs.Common.{arith}
use Rattle.tag_population.proofs.EventsOnTags.{befallen_next, befallen_all, length-tags_after_event}
use Rattle.tag_population.proofs.population.Population.befall_all.Goals as goal

pub befall-requires : goal.befall-requires
befall-requires g c = rw c.loop-event.invariant.1 (c.requires c.loop-event.event-index _ c.loop-event-test.true)

pub loop-event-preserved : goal.loop-event-preserved
loop-event-preserved g c = (
  befallen_next c.args.events.now c.loop-event.event-index _ c.loop-event.self c.befall.new.self _ c.loop-event-test.true c.loop-event.invariant.0 c.befall.ensures.tags,
  rw (c.befall.ensures.tags, length-tags_after_event) c.loop-event.invariant.1,
  omega (arith, c.befall.ensures.counted, c.loop-event.invariant.2),
)

pub returns-clause-tags : goal.returns-clause-tags
returns-clause-tags g c = befallen_all c.args.events.now c.loop-event.event-index c.loop-event.self _ c.loop-event-test.false c.loop-event.invariant.0
