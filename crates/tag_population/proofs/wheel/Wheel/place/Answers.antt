use Rattle.std.proofs.Common.{◌∙◌}
use Rattle.tag_population.proofs.WheelLinks.{kept_at, kept_some, kept_within}
use Rattle.tag_population.proofs.wheel.Wheel.place.Goals as goal

pub returns-else-place-eq-NOWHERE-clause-range : goal.returns-else-place-eq-NOWHERE-clause-range
returns-else-place-eq-NOWHERE-clause-range c = λ place is.
    let within = kept_within c.self.inside.places.items c.args.self.now c.args.number c.index.result c.self.view_is c.index.ensures.value c.requires in
    (c.self.invariant.are.inside c.index.result place
    (kept_at c.self.inside.places.items c.index.result c.index-place.result.now within c.index-place.ensures ∙ kept_some c.index-place.result.now c.if-place-eq-NOWHERE.false ∙ is)).1
