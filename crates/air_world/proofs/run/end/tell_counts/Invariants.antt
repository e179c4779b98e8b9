use Rattle.air_world.proofs.Names.{map, take, IsToldWhole, seen_line}
use Rattle.air_world.proofs.run.end.tell_counts.Given as goal

abbrev pub invariant-loop-at : goal.invariant-loop-at
invariant-loop-at g l = record { told : IsToldWhole g.R.Listener.hears (map seen_line (take l.at l.seen)) l.fn.report l.report }
