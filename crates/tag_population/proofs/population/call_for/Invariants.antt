use Rattle.std.proofs.Common.{length, ◌-◌}
use Rattle.tag_population.proofs.QueryRepCalls.{Calls}
use Rattle.tag_population.specs.Hearing.{reach_steps}
use Rattle.tag_population.specs.declared.floor.Reach.TheVariants.{CalledOnly}
use Rattle.tag_population.proofs.population.call_for.Given as goal

abbrev pub invariant-loop-number : goal.invariant-loop-number
invariant-loop-number g l = Calls (record { session = l.session; entry = l.entry; before = l.fn.floor; start = l.fn.steps }) l.number-index l.floor l.steps

abbrev pub invariant-loop-number-2 : goal.invariant-loop-number-2
invariant-loop-number-2 g l = Calls (record { session = l.session; entry = l.entry; before = l.fn.floor; start = l.fn.steps }) (length l.entry.missed) l.floor l.steps

abbrev pub decreases-loop-number-2 : goal.decreases-loop-number-2
decreases-loop-number-2 g l = length l.floor.parts - reach_steps CalledOnly l.floor.parts
