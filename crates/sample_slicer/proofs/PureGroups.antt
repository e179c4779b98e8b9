-- Groups that stand for a level, sample by sample.
use Rattle.std.proofs.Common.{ℕ, zero, suc, List, [], ◌∷◌, Bool, arith}
use Rattle.sample_slicer.specs.Samples.{IsOnSide, IsPure}

pub pure_none : (threshold : ℕ) (level : Bool) → IsPure threshold level []
pure_none threshold level place default below = absurd (omega (arith, below))

pub pure_more : (threshold : ℕ) (level : Bool) (sample : ℕ) (group : List ℕ) → IsOnSide threshold level sample → IsPure threshold level group → IsPure threshold level (sample ∷ group)
pure_more threshold level sample group side pure zero default below = side
pure_more threshold level sample group side pure (suc place) default below = pure place default (omega (arith, below))

pub pure_first : (threshold : ℕ) (level : Bool) (sample : ℕ) (group : List ℕ) → IsPure threshold level (sample ∷ group) → IsOnSide threshold level sample
pure_first threshold level sample group pure = pure zero 0 (omega arith)

pub pure_rest : (threshold : ℕ) (level : Bool) (sample : ℕ) (group : List ℕ) → IsPure threshold level (sample ∷ group) → IsPure threshold level group
pure_rest threshold level sample group pure place default below = pure (suc place) default (omega (arith, below))
