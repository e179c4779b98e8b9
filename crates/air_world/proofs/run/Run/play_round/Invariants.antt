use Rattle.air_world.proofs.Names.{◌-◌, List, Item, Begun, StandsAt}
use Rattle.air_world.proofs.Rounds.{RoundUnderway}
use Rattle.air_world.proofs.run.Run.play_round.Given as goal

abbrev pub invariant-slots : goal.invariant-slots
invariant-slots g l =
    (begun : Begun g.row.R.Denot) (past : List Item) → StandsAt g.R.Listener.hears begun past l.fn.air l.fn.self l.fn.report
    → RoundUnderway g.R.Listener.hears begun (record { start = begun.start; operations = l.operations; spec = l.spec; before = past })
    (record { number = l.number; round = l.round; command = l.command }) l.air l.self l.report

abbrev pub decreases-slots : goal.decreases-slots
decreases-slots g l = l.round.spec.limit - l.round.slots_sent
