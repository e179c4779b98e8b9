-- What a decoder answered, and what it left, as the answer to a request.
use Rattle.std.proofs.Common.{ℕ, Bool, List, Result, Ok, Err}
use Rattle.std.specs.Prelude.{IfOk, IfErr, OnOk, MatchResult}
use Rattle.sample_slicer.specs.Samples.{AreLevels, IsSliceAnswer, RefusesSamples}
use Rattle.sample_slicer.specs.declared.slicer.SliceRefusal.{SliceRefusal}
use Rattle.decode_lines.specs.Answer.{with_left}

pub left_right : {A B E : Type 0} (left : A → B) (Is : B → Type 0) (Refuses : E → Type 0) (outcome : Result A E) → IfOk outcome (λ done. Is (left done)) → IfErr outcome Refuses
    → MatchResult (with_left left outcome) Is Refuses
left_right left Is Refuses (Ok done) ok refused = ok
left_right left Is Refuses (Err refusal) ok refused = refused

pub sliced_right : (threshold per_level : ℕ) (samples : List ℕ) (levels : List Bool) (outcome : Result (Unit {0}) SliceRefusal) → OnOk outcome (AreLevels threshold per_level samples levels)
    → IfErr outcome (RefusesSamples threshold per_level samples) → IsSliceAnswer threshold per_level samples (with_left (λ done. levels) outcome)
sliced_right threshold per_level samples levels (Ok done) ok refused = ok
sliced_right threshold per_level samples levels (Err refusal) ok refused = refused
