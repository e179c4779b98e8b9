use Rattle.std.proofs.Common.{length, ◌-◌}
use Rattle.tag_population.proofs.HeardTags.{HeardBelow}
use Rattle.tag_population.proofs.population.hear_reached.Given as goal

abbrev pub invariant-loop-number : goal.invariant-loop-number
invariant-loop-number g l =
    HeardBelow (record { command = l.command; entry = l.entry; before = l.fn.floor; old = l.fn.answers; start = l.fn.steps }) l.from l.floor l.answers l.steps

abbrev pub decreases-loop-number : goal.decreases-loop-number
decreases-loop-number g l = length l.fn.floor.tags - l.from
