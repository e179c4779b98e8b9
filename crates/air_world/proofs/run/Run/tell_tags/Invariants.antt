use Rattle.air_world.proofs.Names.{◌≡◌, take, IsToldWhole, tag_lines}
use Rattle.air_world.proofs.run.Run.tell_tags.Given as goal

abbrev pub invariant-loop-number : goal.invariant-loop-number
invariant-loop-number g l = record {
  air : l.air ≡ l.fn.air;
  told : IsToldWhole g.R.Listener.hears (tag_lines 0 (take l.number l.fn.air.tags)) l.fn.report l.report;
}
