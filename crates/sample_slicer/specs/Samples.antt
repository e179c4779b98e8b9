-- Profile: a capture is cut into groups of `per` samples, counted from 0, and each group stands for one level.
use Rattle.std.specs.Prelude.{◌≡◌, ℕ, ◌+◌, ◌*◌, ◌<◌, ◌≤◌, Bool, true, false, List, length, take, drop, Some, slice_get, Result, Ok, Err}
use Rattle.std.specs.List.{All}
use Rattle.sample_slicer.specs.declared.slicer.SliceRefusal.{SliceRefusal}
use Rattle.sample_slicer.specs.declared.slicer.SliceRefusal.TheVariants.{Mixed, Rest}

-- the most samples of a capture
abbrev pub most_samples : ℕ
most_samples = 132000

-- the samples of a group; the last group may be short
abbrev pub group_of : List ℕ → ℕ → ℕ → List ℕ
group_of samples per group = take per (drop (group * per) samples)

-- the sample is on the side of the level: at or above the threshold for a 1, below it for a 0
abbrev pub IsOnSide : ℕ → Bool → ℕ → Type 0
IsOnSide threshold true sample = threshold ≤ sample
IsOnSide threshold false sample = sample < threshold

-- each sample of the group is on the side of the level
abbrev pub IsPure : ℕ → Bool → List ℕ → Type 0
IsPure threshold level group = All (IsOnSide threshold level) group

-- the groups before this one are pure
abbrev pub ArePureBefore : ℕ → ℕ → List ℕ → ℕ → Type 0
ArePureBefore threshold per samples count =
    (group : ℕ) → group < count → (level : Bool) × IsPure threshold level (group_of samples per group)

-- the levels are those of the groups, which are whole
pub record AreLevels (threshold per : ℕ) (samples : List ℕ) (levels : List Bool) : Type 0 where
  pub whole : length samples ≡ length levels * per
  pub each : (group : ℕ) (level : Bool) → slice_get levels group ≡ Some level → IsPure threshold level (group_of samples per group)

-- the first whole group with samples on both sides begins at this place
pub record IsMixedAt (threshold per : ℕ) (samples : List ℕ) (place : ℕ) : Type 0 where
  pub group : ℕ
  pub begins : place ≡ group * per
  pub whole : place + per ≤ length samples
  pub mixed : (level : Bool) → ¬ IsPure threshold level (group_of samples per group)
  pub before : ArePureBefore threshold per samples group

-- every whole group is pure, and behind them a short group begins at this place
pub record IsRestAt (threshold per : ℕ) (samples : List ℕ) (place : ℕ) : Type 0 where
  pub group : ℕ
  pub begins : place ≡ group * per
  pub some : place < length samples
  pub short : length samples < place + per
  pub before : ArePureBefore threshold per samples group

-- why samples are no whole levels: a mixed group, or a short one at the end
abbrev pub RefusesSamples : ℕ → ℕ → List ℕ → SliceRefusal → Type 0
RefusesSamples threshold per samples (Mixed place) = IsMixedAt threshold per samples place
RefusesSamples threshold per samples (Rest place) = IsRestAt threshold per samples place

-- the answer to samples: the levels of their groups, or why they are no whole levels
abbrev pub IsSliceAnswer : ℕ → ℕ → List ℕ → Result (List Bool) SliceRefusal → Type 0
IsSliceAnswer threshold per samples (Ok levels) = AreLevels threshold per samples levels
IsSliceAnswer threshold per samples (Err refusal) = RefusesSamples threshold per samples refusal
