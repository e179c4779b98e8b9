-- A mask without bits and one with all bits tell the level.
use Rattle.std.proofs.Common.{inl, inr}
use Rattle.sample_slicer.proofs.Masks.{no_level, one_level}
use Rattle.sample_slicer.proofs.slicer.level_of_mask.Goals as goal
use Rattle.sample_slicer.proofs.slicer.level_of_mask.Goals.{else-mask-ne0-via-then-mask-ne0+else-mask-all_high, else-mask-ne0-via-else-mask-ne0}

pub returns-then-mask-all_high-clause-mixed : goal.returns-then-mask-all_high-clause-mixed
returns-then-mask-all_high-clause-mixed c = λ threshold group is all.
    no_level threshold c.args.mask c.args.all_high group c.if-mask-ne0.true c.if-mask-all_high.true is all

pub returns-else-mask-ne0-clause-pure : goal.returns-else-mask-ne0-clause-pure
returns-else-mask-ne0-clause-pure c = λ threshold group is all.
    one_level threshold c.args.mask c.args.all_high group
    (elim c.else-mask-ne0.branch [
      | else-mask-ne0-via-then-mask-ne0+else-mask-all_high w ↦ inr w.if-mask-all_high.false
      | else-mask-ne0-via-else-mask-ne0 w ↦ inl w.if-mask-ne0.false
    ]) is all
