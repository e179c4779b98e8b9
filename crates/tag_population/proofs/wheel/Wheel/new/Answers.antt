use Rattle.std.proofs.Common.{arith}
use Rattle.tag_population.proofs.WheelLinks.{new_linked, nowhere_kept}
use Rattle.tag_population.proofs.wheel.Wheel.new.Goals as goal

pub invariant_of-result : goal.invariant_of-result
invariant_of-result c =
    new_linked c.args.count _ _ c.in_ok-links.links.items c.in_ok-backs.backs.items c.requires
    (rw (c.in_ok-places.ensures.items_if_clones_equal (λ y is. is)) (nowhere_kept c.args.count)) (omega arith)
    (c.in_ok-links.ensures.items_if_clones_equal (λ y is. is)) (omega (arith, c.in_ok-backs.ensures.len))

pub returns : goal.returns
returns c = rw (c.in_ok-places.ensures.items_if_clones_equal (λ y is. is)) (nowhere_kept c.args.count)
