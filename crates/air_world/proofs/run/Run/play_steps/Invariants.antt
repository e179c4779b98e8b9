use Rattle.air_world.proofs.Names.{List, Item, Begun, StandsAt}
use Rattle.air_world.proofs.Steps.{StepsUnderway}
use Rattle.air_world.proofs.run.Run.play_steps.Given as goal

abbrev pub invariant-loop-step : goal.invariant-loop-step
invariant-loop-step g l =
    (begun : Begun g.row.R.Denot) (past : List Item) → StandsAt g.R.Listener.hears begun past l.fn.air l.fn.self l.fn.report
    → StepsUnderway g.R.Listener.hears begun (record { start = begun.start; before = past; steps = l.steps }) l.step-index l.air l.self l.report
