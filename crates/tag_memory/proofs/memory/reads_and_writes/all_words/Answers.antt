use Rattle.std.proofs.Common.{◌≡◌, true, false, sym}
use Rattle.tag_memory.proofs.AllWords.{one_passes, one_fails}
use Rattle.tag_memory.proofs.memory.reads_and_writes.all_words.Goals as goal

pub returns-then-not-passes : goal.returns-then-not-passes
returns-then-not-passes g c test means =
    let same = means c.loop-place.place c.passes.result c.loop-place-test.true c.passes.ensures in
    let failed : test c.loop-place.place ≡ false = cc in
    sym (one_fails test _ c.loop-place.place c.args.end c.loop-place-test.true (c.loop-place.invariant test means) failed)

pub loop-place-preserved : goal.loop-place-preserved
loop-place-preserved g c test means =
    let same = means c.loop-place.place c.passes.result c.loop-place-test.true c.passes.ensures in
    let passed : test c.loop-place.place ≡ true = cc in
    one_passes test _ c.loop-place.place c.args.end c.loop-place-test.true (c.loop-place.invariant test means) passed
