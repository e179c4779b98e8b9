-- What the slicer has done when it stands at a place: one level for each group before it.
use Rattle.std.specs.Prelude.{◌≡◌, ℕ, ◌*◌, ◌≤◌, Bool, List, length, Some, slice_get}
use Rattle.sample_slicer.specs.Samples.{group_of, IsPure}

-- the levels are those of the groups before the place
pub record SlicedTo (threshold per : ℕ) (samples : List ℕ) (levels : List Bool) (place : ℕ) : Type 0 where
  pub stands : place ≡ length levels * per
  pub within : place ≤ length samples
  pub few : length levels ≤ place
  pub each : (group : ℕ) (level : Bool) → slice_get levels group ≡ Some level → IsPure threshold level (group_of samples per group)
