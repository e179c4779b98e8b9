use Rattle.std.proofs.Common.{arith, map}
use Rattle.tag_population.proofs.WheelLinks.{tag_on, no_tag_on}
use Rattle.std.proofs.lemmas.List.{length-map}
use Rattle.tag_population.specs.Wheel.{place_kept}
use Rattle.tag_population.proofs.wheel.Wheel.tag_on.Goals as goal

pub returns-then-first-len : goal.returns-then-first-len
returns-then-first-len c =
    rw (← c.self.view_is, c.from_index.ensures, c.from-first.ensures)
    (tag_on (map place_kept c.self.inside.places.items) _ _ c.args.place c.index.result.now c.self.invariant c.requires c.index.ensures
    (omega (arith, c.if-first-len.true, c.len.ensures, c.from-first.ensures, length-map c.self.inside.places.items place_kept)))

pub returns-else-first-len : goal.returns-else-first-len
returns-else-first-len c =
    rw (← c.self.view_is)
    (no_tag_on (map place_kept c.self.inside.places.items) _ _ c.args.place c.index.result.now c.self.invariant c.requires c.index.ensures
    (omega (arith, c.if-first-len.false, c.len.ensures, c.from-first.ensures, length-map c.self.inside.places.items place_kept)))
