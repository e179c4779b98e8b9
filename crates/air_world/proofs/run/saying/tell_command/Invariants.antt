use Rattle.air_world.proofs.Names.{◌∷◌, ◌++◌, map, take, [], IsToldWhole, ExchangeLine, MissedLine}
use Rattle.air_world.proofs.run.saying.tell_command.Given as goal

abbrev pub invariant-loop-tag : goal.invariant-loop-tag
invariant-loop-tag g l = record {
  told : IsToldWhole g.R.Listener.hears ((ExchangeLine l.exchange l.command ∷ []) ++ map (MissedLine l.exchange) (take l.tag-index l.tag-items)) l.fn.report l.report;
}
