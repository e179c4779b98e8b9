use Rattle.std.proofs.Common.{◌∙◌, ap, arith, refl}
use Rattle.tag_population.specs.Wheel.{place_kept}
use Rattle.tag_population.proofs.WheelLinks.{TakenRead, kept_at, kept_set, kept_within, take_back_inside, take_linked, take_nowhere}
use Rattle.tag_population.proofs.wheel.Wheel.take.Goals.{After-index_mut-arg-1}
use Rattle.tag_population.proofs.wheel.Wheel.take.Goals as goal

abbrev read : After-index_mut-arg-1 → TakenRead
read c = record {
  kept = c.self.inside.places.items;
  links = c.self.inside.links.items;
  backs = c.self.inside.backs.items;
  linked = c.self.invariant;
  number = c.index-at.result;
  place = c.index.result.now;
  next = c.index-next.result.now;
  back = c.index-back.result.now;
  within = kept_within c.self.inside.places.items c.args.self.now c.args.number c.index-at.result c.self.view_is c.index-at.ensures.value c.requires;
  place_is = c.index.ensures;
  apart = c.if-index-eq-NOWHERE.false;
  next_is = c.index-next.ensures;
  back_is = c.index-back.ensures;
}

pub index_mut-requires : goal.index_mut-requires
index_mut-requires c = omega (arith, take_back_inside (read c))

pub invariant_of-self : goal.invariant_of-self
invariant_of-self c = rw c.from.ensures (take_linked (read (goal.at.invariant_of-self c).After-index_mut-arg-1))

pub returns-clause-places : goal.returns-clause-places
returns-clause-places c = kept_set c.self.inside.places.items c.args.self.now c.args.number c.index-at.result _ _ c.self.view_is c.index-at.ensures.value refl

pub returns-then-index-eq-NOWHERE-clause-places : goal.returns-then-index-eq-NOWHERE-clause-places
returns-then-index-eq-NOWHERE-clause-places c =
    let within = kept_within c.self.inside.places.items c.args.self.now c.args.number c.index-at.result c.self.view_is c.index-at.ensures.value c.requires in
    rw (← c.self.view_is, ← c.index-at.ensures.value)
    (take_nowhere _ c.index-at.result
    (kept_at c.self.inside.places.items c.index-at.result c.index.result.now within c.index.ensures ∙ ap (λ n. place_kept n) c.if-index-eq-NOWHERE.true))
