use Rattle.std.proofs.Common.{◌<◌, ◌∙◌, ap, arith, refl, length}
use Rattle.tag_population.proofs.EventsOnTags.{befallen_at}
use Rattle.tag_population.proofs.SeatedTags.{settled_with}
use Rattle.tag_population.specs.Floor.{FloorValue, no_tag}
use Rattle.tag_population.proofs.population.Population.befall.Goals as goal

pub of-requires : goal.of-requires
of-requires g c =
    let within : c.args.number < length c.self.inside.floor.tags = rw c.self.view_is c.requires in
    omega (arith, c.len-few.ensures.few, within)

pub befall-requires : goal.befall-requires
befall-requires g c = rw (c.of.ensures, c.self.view_is) c.requires

pub invariant_of-self : goal.invariant_of-self
invariant_of-self g c = (settled_with c.self.inside.floor c.befall.new.self c.of.result _ c.self.invariant.0 c.befall.ensures.floor, c.self.invariant.1)

pub returns-clause-tags : goal.returns-clause-tags
returns-clause-tags g c =
    rw (← c.self.view_is, ← c.of.ensures)
    (ap (λ (f : FloorValue). f.tags) c.befall.ensures.floor
    ∙ befallen_at c.of.result c.args.event c.self.inside.floor.tags _ _ no_tag (rw (c.of.ensures, c.self.view_is) c.requires) refl refl)
