use Rattle.std.proofs.Common.{◌<◌, ◌∙◌, ap, arith, refl, length}
use Rattle.std.proofs.lemmas.Option.{slice_get-get_or}
use Rattle.tag_population.specs.Floor.{FloorValue, no_tag}
use Rattle.tag_population.proofs.population.Population.tag.Goals as goal

pub of-requires : goal.of-requires
of-requires g c =
    let within : c.args.number < length c.self.inside.floor.tags = rw c.self.view_is c.requires in
    omega (arith, c.len-few.ensures.few, within)

pub tag-requires : goal.tag-requires
tag-requires g c = rw (c.of.ensures, c.self.view_is) c.requires

pub invariant_of-self : goal.invariant_of-self
invariant_of-self g c = rw c.tag.follows.holds-at-none c.self.invariant

pub returns : goal.returns
returns g c = (
  (refl, λ population. tt, ap (λ (f : FloorValue). f.tags) c.tag.follows.holds-at-none ∙ c.self.view_is),
  record {
    same = tt;
    value =
        rw (← c.self.view_is, ← c.of.ensures, c.tag.ensures.value)
        (slice_get-get_or c.self.inside.floor.tags c.of.result no_tag (rw (c.of.ensures, c.self.view_is) c.requires));
    legal = c.tag.ensures.legal;
    counted = c.tag.ensures.counted;
  },
)
