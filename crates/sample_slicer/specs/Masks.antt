-- Many samples at a time: a mask has a bit for each sample, the lowest for the first one, which is 1 where the sample is at
-- or above the threshold.
use Rattle.std.specs.Prelude.{ℕ, List, map, nat_le}
use Rattle.std.specs.Simd.Lanes.{mask_l}

-- the mask of samples at a threshold
abbrev pub sample_mask_of : ℕ → List ℕ → ℕ
sample_mask_of threshold samples = mask_l (map (λ sample. nat_le threshold sample) samples)
