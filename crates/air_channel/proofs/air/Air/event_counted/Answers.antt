use Rattle.std.proofs.Common.{◌≤◌, List, length, ap, arith}
use Rattle.air_channel.proofs.Names.{TagValue}
use Rattle.tag_population.proofs.EventsOnTags.{length-tags_after_event}
use Rattle.air_channel.proofs.air.Air.event_counted.Goals as goal

pub invariant_of-self : goal.invariant_of-self
invariant_of-self g c =
    let before = c.self.invariant in
    let few : length c.befall.new.self ≤ c.self.inside.answers.tags =
    omega (arith, before.5, ap (λ (l : List TagValue). length l) c.befall.ensures.tags, length-tags_after_event 0 c.args.tag c.args.event c.self.inside.population) in
    (before.0, before.1, before.2, before.3, before.4, few)
