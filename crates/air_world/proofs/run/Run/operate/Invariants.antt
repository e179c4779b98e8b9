use Rattle.air_world.proofs.Names.{ℕ, List, None, Some, [], if◌then◌else◌, OpRunStandsFor, turns_left, Item, Begun, StandsAt}
use Rattle.air_world.proofs.Operating.{OperationsUnderway}
use Rattle.air_world.proofs.run.Run.operate.Given as goal

abbrev pub invariant-moves : goal.invariant-moves
invariant-moves g l =
    (begun : Begun g.row.R.Denot) (past : List Item) (epc : List ℕ) (rn : ℕ) → StandsAt g.R.Listener.hears begun past l.fn.air l.fn.self l.fn.report → OpRunStandsFor l.fn.first l.operations epc rn []
    → OperationsUnderway g.R.Listener.hears begun (record { at = record { start = begun.start; round = l.round; slot = l.slot }; list = l.operations; epc = epc; rn = rn; before = past })
    (record { run = l.run; answer = if l.is_answered then Some l.answer else None; index = l.index }) l.air l.self l.report

abbrev pub decreases-moves : goal.decreases-moves
decreases-moves g l = turns_left l.operations l.run
