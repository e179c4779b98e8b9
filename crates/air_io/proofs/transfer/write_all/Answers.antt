use Rattle.std.proofs.Common.{arith, ◌∙◌}
use Rattle.air_io.proofs.Joined.{Adds-next}
use Rattle.std.proofs.lemmas.Grind.{common_steps}
use Rattle.air_io.proofs.transfer.write_all.Goals as goal

pub loop-done-preserved : goal.loop-done-preserved
loop-done-preserved g c = record {
  within = grind (arith, common_steps, c.in-Took.ensures.took.1);
  added = Adds-next _ _ _ c.args.piece.now c.loop-done.done c.in-Took.count c.loop-done.invariant.added c.in-Took.ensures.took.2;
  count = c.in-Took.ensures.steady ∙ c.loop-done.invariant.count;
}
