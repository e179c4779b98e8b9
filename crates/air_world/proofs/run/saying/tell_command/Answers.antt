use Rattle.air_world.proofs.Names.{◌∷◌, [], ExchangeLine, MissedLine, slice_get-get_or}
use Rattle.air_world.proofs.Saying.{tells-more}
use Rattle.air_world.proofs.run.saying.tell_command.Goals as goal

pub loop-tag-preserved : goal.loop-tag-preserved
loop-tag-preserved g c = record {
  told = tells-more (MissedLine c.args.exchange) (ExchangeLine c.args.exchange c.args.command.now ∷ []) c.as_slice-tag-items.result.now c.loop-tag.tag-index _
      (slice_get-get_or c.as_slice-tag-items.result.now c.loop-tag.tag-index _ c.loop-tag-test.true) c.loop-tag.invariant.told (record { on = c.tell-in-loop-tag.ensures });
}
