-- How the slicer goes on from the place where it stands.
use Rattle.std.proofs.Common.{◌≡◌, ◌⊎◌, ℕ, zero, suc, ◌+◌, ◌-◌, ◌*◌, ◌<◌, ◌≤◌, Bool, List, [], ◌∷◌, ◌++◌, length, take, drop, Some, refl, sym, ◌∙◌, ap, subst, arith, inl, inr, ⊎_elim, length-append, zero-mul}
use Rattle.std.proofs.Math.Nat.{suc-mul}
use Rattle.std.specs.List.{slice_get, slice_range}
use Rattle.sample_slicer.specs.Samples.{group_of, IsPure, ArePureBefore, IsMixedAt}
use Rattle.sample_slicer.specs.SlicedTo.{SlicedTo}

pub sliced_none : (threshold per : ℕ) (samples : List ℕ) → SlicedTo threshold per samples [] 0
sliced_none threshold per samples = record { stands = sym (zero-mul per); within = omega arith; few = omega arith; each = λ group level e. cc }

-- the item in front of a last one, or the last one
slice_get_last : (levels : List Bool) (last level : Bool) (group : ℕ) → slice_get (levels ++ last ∷ []) group ≡ Some level → (slice_get levels group ≡ Some level) ⊎ ((group ≡ length levels) × (level ≡ last))
slice_get_last [] last level zero e = inr (refl, cc)
slice_get_last [] last level (suc group) e = cc
slice_get_last (x ∷ levels) last level zero e = inl e
slice_get_last (x ∷ levels) last level (suc group) e = ⊎_elim (λ h. inl h) (λ h. inr (ap suc h.0, h.1)) (slice_get_last levels last level group e)

-- there is an item at each place below the length
slice_get_there : (levels : List Bool) (group : ℕ) → group < length levels → (level : Bool) × (slice_get levels group ≡ Some level)
slice_get_there [] group below = absurd (omega arith)
slice_get_there (x ∷ levels) zero below = (x, refl)
slice_get_there (x ∷ levels) (suc group) below = slice_get_there levels group (omega arith)

-- the samples of the group that begins at a place
here_is : (threshold per : ℕ) (samples : List ℕ) (group place : ℕ) (level : Bool) → place ≡ group * per → IsPure threshold level (slice_range samples place (place + per)) → IsPure threshold level (group_of samples per group)
here_is threshold per samples group place level stands pure =
    let size : place + per - place ≡ per = omega arith in
    subst (λ at. IsPure threshold level (take per (drop at samples))) stands (subst (λ n. IsPure threshold level (take n (drop place samples))) size pure)

-- the same, the other way
here_was : (threshold per : ℕ) (samples : List ℕ) (group place : ℕ) (level : Bool) → place ≡ group * per → IsPure threshold level (group_of samples per group) → IsPure threshold level (slice_range samples place (place + per))
here_was threshold per samples group place level stands pure =
    let size : per ≡ place + per - place = omega arith in
    subst (λ n. IsPure threshold level (take n (drop place samples))) size (subst (λ at. IsPure threshold level (take per (drop at samples))) (sym stands) pure)

-- at a place a whole group begins, with all its samples on one side
pub record PureGroup (threshold per : ℕ) (samples : List ℕ) (place : ℕ) (level : Bool) : Type 0 where
  pub whole : place + per ≤ length samples
  pub pure : IsPure threshold level (slice_range samples place (place + per))

-- one more group
pub sliced_more : (threshold per : ℕ) (samples : List ℕ) (levels : List Bool) (place : ℕ) (level : Bool) → 1 ≤ per → SlicedTo threshold per samples levels place → PureGroup threshold per samples place level
    → SlicedTo threshold per samples (levels ++ level ∷ []) (place + per)
sliced_more threshold per samples levels place level least so_far next =
    let count : length (levels ++ level ∷ []) ≡ suc (length levels) = length-append levels (level ∷ []) ∙ omega arith in
    let here : IsPure threshold level (group_of samples per (length levels)) = here_is threshold per samples (length levels) place level so_far.stands next.pure in
    record {
      stands = rw (count, suc-mul) (omega (arith, so_far.stands));
      within = next.whole;
      few = rw count (omega (arith, so_far.few));
      each = λ group wanted e. ⊎_elim
          (λ h. so_far.each group wanted h)
          (λ (h : (group ≡ length levels) × (wanted ≡ level)). subst (λ n. IsPure threshold wanted (group_of samples per n)) (sym h.0) (subst (λ b. IsPure threshold b (group_of samples per (length levels))) (sym h.1) here))
          (slice_get_last levels level wanted group e);
    }

-- the groups behind which the slicer stands are pure
pub pure_before : (threshold per : ℕ) (samples : List ℕ) (levels : List Bool) (place : ℕ) → SlicedTo threshold per samples levels place → ArePureBefore threshold per samples (length levels)
pure_before threshold per samples levels place so_far group below =
    let found = slice_get_there levels group below in (found.0, so_far.each group found.0 found.1)

-- the slicer stands before a group that has samples on both sides
pub mixed_here : (threshold per : ℕ) (samples : List ℕ) (levels : List Bool) (place : ℕ) → SlicedTo threshold per samples levels place → place + per ≤ length samples → ((level : Bool) → ¬ IsPure threshold level (slice_range samples place (place + per))) → IsMixedAt threshold per samples place
mixed_here threshold per samples levels place so_far room mixed = record {
  group = length levels;
  begins = so_far.stands;
  whole = room;
  mixed = λ level pure. mixed level (here_was threshold per samples (length levels) place level so_far.stands pure);
  before = pure_before threshold per samples levels place so_far;
}
