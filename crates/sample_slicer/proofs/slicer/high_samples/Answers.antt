-- The mask of the first samples.
use Rattle.std.proofs.Common.{take}
use Rattle.std.proofs.lemmas.List.{length-take-le}
use Rattle.sample_slicer.proofs.Masks.{mask_of_lanes}
use Rattle.sample_slicer.proofs.slicer.high_samples.Goals as goal

pub returns : goal.returns
returns c = mask_of_lanes c.args.threshold (take 32 c.args.samples.now) (length-take-le 32 c.args.samples.now c.requires)
