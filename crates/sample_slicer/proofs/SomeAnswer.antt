-- That all samples have an answer: the levels of their groups, or a refusal.
use Rattle.std.proofs.Common.{◌⊎◌, ℕ, zero, suc, ◌+◌, ◌<◌, ◌≤◌, Bool, true, false, List, [], ◌∷◌, ◌++◌, length, arith, inl, inr, Result, Ok, Err}
use Rattle.std.proofs.lemmas.Bool.{cases_lt}
use Rattle.std.specs.List.{slice_range}
use Rattle.sample_slicer.specs.Samples.{IsOnSide, IsPure, AreLevels, IsRestAt, IsSliceAnswer}
use Rattle.sample_slicer.specs.declared.slicer.SliceRefusal.{SliceRefusal}
use Rattle.sample_slicer.specs.declared.slicer.SliceRefusal.TheVariants.{Mixed, Rest}
use Rattle.sample_slicer.specs.SlicedTo.{SlicedTo}
use Rattle.sample_slicer.proofs.PureGroups.{pure_none, pure_more, pure_first, pure_rest}
use Rattle.sample_slicer.proofs.SlicedSoFar.{sliced_none, sliced_more, pure_before, mixed_here}

-- a fact holds, or it does not
abbrev Decided : Type 0 → Type 0
Decided P = P ⊎ (¬ P)

sided : (threshold : ℕ) (level : Bool) (sample : ℕ) → Decided (IsOnSide threshold level sample)
sided threshold true sample = elim (cases_lt sample threshold) [ inl below ↦ inr (λ above. omega arith) | inr above ↦ inl above ]
sided threshold false sample = elim (cases_lt sample threshold) [ inl below ↦ inl below | inr above ↦ inr (λ below. omega arith) ]

pure_decided : (threshold : ℕ) (level : Bool) (group : List ℕ) → Decided (IsPure threshold level group)
pure_decided threshold level [] = inl (pure_none threshold level)
pure_decided threshold level (sample ∷ group) =
    elim (sided threshold level sample) [
      | inr off ↦ inr (λ pure. off (pure_first threshold level sample group pure))
      | inl side ↦ elim (pure_decided threshold level group) [
        | inr mixed ↦ inr (λ pure. mixed (pure_rest threshold level sample group pure))
        | inl pure ↦ inl (pure_more threshold level sample group side pure)
      ]
    ]

neither : (threshold : ℕ) (group : List ℕ) → ¬ IsPure threshold true group → ¬ IsPure threshold false group → (level : Bool) → ¬ IsPure threshold level group
neither threshold group high low true = high
neither threshold group high low false = low

-- a group stands for a level, or has samples on both sides
level_decided : (threshold : ℕ) (group : List ℕ) → ((level : Bool) × IsPure threshold level group) ⊎ ((level : Bool) → ¬ IsPure threshold level group)
level_decided threshold group =
    elim (pure_decided threshold true group) [
      | inl high ↦ inl (true, high)
      | inr not_high ↦ elim (pure_decided threshold false group) [
        | inl low ↦ inl (false, low)
        | inr not_low ↦ inr (neither threshold group not_high not_low)
      ]
    ]

abbrev SomeAnswer : ℕ → ℕ → List ℕ → Type 0
SomeAnswer threshold per samples = (answer : Result (List Bool) SliceRefusal) × IsSliceAnswer threshold per samples answer

-- behind the last whole group
at_end : (threshold per : ℕ) (samples : List ℕ) (levels : List Bool) (place : ℕ) → SlicedTo threshold per samples levels place → length samples < place + per → SomeAnswer threshold per samples
at_end threshold per samples levels place so_far short =
    elim (cases_lt place (length samples)) [
      | inl some ↦
          let rest : IsRestAt threshold per samples place = record {
            group = length levels;
            begins = so_far.stands;
            some = some;
            short = short;
            before = pure_before threshold per samples levels place so_far;
          } in
          (Err (Rest place), rest)
      | inr none ↦
          let whole : AreLevels threshold per samples levels = record { whole = omega (arith, so_far.within, so_far.stands); each = so_far.each } in
          (Ok levels, whole)
    ]

-- the first number bounds how many samples are left
goes : (left threshold per : ℕ) (samples : List ℕ) (levels : List Bool) (place : ℕ) → 1 ≤ per → SlicedTo threshold per samples levels place → length samples ≤ place + left → SomeAnswer threshold per samples
goes zero threshold per samples levels place least so_far few = at_end threshold per samples levels place so_far (omega arith)
goes (suc left) threshold per samples levels place least so_far few =
    elim (cases_lt (length samples) (place + per)) [
      | inl short ↦ at_end threshold per samples levels place so_far short
      | inr room ↦ elim (level_decided threshold (slice_range samples place (place + per))) [
        | inr mixed ↦ (Err (Mixed place), mixed_here threshold per samples levels place so_far room mixed)
        | inl found ↦
            goes left threshold per samples (levels ++ found.0 ∷ []) (place + per) least
            (sliced_more threshold per samples levels place found.0 least so_far (record { whole = room; pure = found.1 })) (omega arith)
      ]
    ]

pub some_answer : (threshold per : ℕ) (samples : List ℕ) → 1 ≤ per → SomeAnswer threshold per samples
some_answer threshold per samples least = goes (length samples) threshold per samples [] 0 least (sliced_none threshold per samples) (omega arith)
