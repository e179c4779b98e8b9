use Rattle.std.proofs.Common.{◌≡◌, ℕ, List, Option, None, arith, subst, sym}
use Rattle.tag_population.specs.Wheel.{wheel_place_of}
use Rattle.tag_population.proofs.WheelLinks.{kept_set, kept_some, kept_within, put_on}
use Rattle.tag_population.proofs.wheel.Wheel.put.Goals as goal

pub invariant_of-self : goal.invariant_of-self
invariant_of-self c =
    let within = kept_within c.self.inside.places.items c.args.self.now c.args.number c.index-at.result c.self.view_is c.index-at.ensures.value c.requires.number in
    rw (c.get.ensures.value, c.from.ensures, c.index-at.ensures.value)
    (put_on c.self.inside.places.items c.self.inside.links.items c.self.inside.backs.items c.args.number c.args.place c.index-first.result.now c.self.invariant (rw (← c.index-at.ensures.value) within)
    (subst (λ (l : List (Option ℕ)). wheel_place_of l c.args.number ≡ None) (sym c.self.view_is) c.requires.nowhere) c.requires.place c.index-first.ensures)

pub returns : goal.returns
returns c =
    kept_set c.self.inside.places.items c.args.self.now c.args.number c.index-at.result c.args.place _ c.self.view_is c.index-at.ensures.value
    (kept_some c.args.place (λ same. omega (arith, same, c.requires.place)))
