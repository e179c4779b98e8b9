-- What the samples are is what is answered.
use Rattle.std.proofs.Common.{◌≡◌, ℕ, ◌≤◌, Bool, true, false, List, Result, Ok, Err, IsOk, OnOk, IfErr, refl, ap}
use Rattle.std.specs.Prelude.{is_err}
use Rattle.sample_slicer.specs.Samples.{AreLevels, RefusesSamples}
use Rattle.sample_slicer.proofs.Samples.{same_answer}
use Rattle.sample_slicer.specs.declared.slicer.SliceRefusal.{SliceRefusal}

-- levels are not refused
pub not_refused : (threshold per : ℕ) (samples : List ℕ) (refusal : SliceRefusal) (levels : List Bool) → 1 ≤ per → RefusesSamples threshold per samples refusal → AreLevels threshold per samples levels → ⊥
not_refused threshold per samples refusal levels least refused are =
    let same : ◌≡◌ {A = Result (List Bool) SliceRefusal} (Err refusal) (Ok levels) = same_answer threshold per samples (Err refusal) (Ok levels) least refused are in
    cc

-- what the samples are answered: the levels that were written, or a refusal
pub record Answered (threshold per : ℕ) (samples : List ℕ) (result : Result (Unit {0}) SliceRefusal) (written : List Bool) : Type 0 where
  pub ok : OnOk result (AreLevels threshold per samples written)
  pub refused : IfErr result (RefusesSamples threshold per samples)

pub only_levels : (threshold per : ℕ) (samples : List ℕ) (result : Result (Unit {0}) SliceRefusal) (written levels : List Bool) → 1 ≤ per
    → Answered threshold per samples result written → AreLevels threshold per samples levels → IsOk result × (written ≡ levels)
only_levels threshold per samples (Ok done) written levels least answered are =
    let same : ◌≡◌ {A = Result (List Bool) SliceRefusal} (Ok written) (Ok levels) = same_answer threshold per samples (Ok written) (Ok levels) least answered.ok are in
    (refl, cc)
only_levels threshold per samples (Err refusal) written levels least answered are = absurd (not_refused threshold per samples refusal levels least answered.refused are)

pub only_refusal : (threshold per : ℕ) (samples : List ℕ) (result : Result (Unit {0}) SliceRefusal) (written : List Bool) (refusal : SliceRefusal) → 1 ≤ per
    → Answered threshold per samples result written → RefusesSamples threshold per samples refusal → result ≡ Err refusal
only_refusal threshold per samples (Ok done) written refusal least answered refuses = absurd (not_refused threshold per samples refusal written least refuses answered.ok)
only_refusal threshold per samples (Err other) written refusal least answered refuses =
    let same : ◌≡◌ {A = Result (List Bool) SliceRefusal} (Err other) (Err refusal) = same_answer threshold per samples (Err other) (Err refusal) least answered.refused refuses in
    let one : other ≡ refusal = cc in
    ap (λ (r : SliceRefusal). Err r) one

-- where the answer is a refusal the samples are no levels
pub refused_all : (threshold per : ℕ) (samples : List ℕ) (result : Result (Unit {0}) SliceRefusal) (levels : List Bool) → 1 ≤ per
    → is_err result ≡ true → IfErr result (RefusesSamples threshold per samples) → AreLevels threshold per samples levels → ⊥
refused_all threshold per samples (Ok done) levels least is refused are = let none : false ≡ true = is in cc
refused_all threshold per samples (Err refusal) levels least is refused are = not_refused threshold per samples refusal levels least refused are
