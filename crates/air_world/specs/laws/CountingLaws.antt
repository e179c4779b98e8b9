-- What is counted where no line is told.
use Rattle.std.proofs.Common.{[], refl}
use Rattle.air_world.specs.Counting.{CountsLines}
use Rattle.runs.specs.declared.summary.Summary.{Summary}

-- nothing is counted where nothing is told
pub counts-nothing : (summary : Summary) → CountsLines [] summary summary
counts-nothing summary = record { counted = λ fits. refl }
