-- What single lines of a probe say, together.
use Rattle.std.specs.Prelude.{◌≡◌, ℕ, List}
use Rattle.text_fields.specs.declared.fields_fault.FieldsFault.{FieldsFault}
use Rattle.checked_lines.specs.declared.fault.FaultReason.{FaultReason}
use Rattle.scenario_lines.specs.declared.tag.TagSpec.{TagSpec}
use Rattle.bench_lines.specs.Stimuli.{ProbeLine}
use Rattle.bench_lines.specs.ProbeLineFaults.{IsFaultyProbeLine}
use Rattle.bench_lines.specs.ProbeLine.{SpellsProbeLine, SpellsTag}
use Rattle.bench_lines.specs.ProbeText.{IsFaultyTagLine}

-- fields say one line at most, or are faulty for one reason, and never both
pub record ProbeLineLaws : Type 0 where
  pub told : (fields : List (List ℕ)) (one other : ProbeLine) → SpellsProbeLine fields one → SpellsProbeLine fields other → one ≡ other
  pub not_faulty : (fields : List (List ℕ)) (line : ProbeLine) (fault : FieldsFault) → SpellsProbeLine fields line → IsFaultyProbeLine fields fault → ⊥
  pub one_fault : (fields : List (List ℕ)) (one other : FieldsFault) → IsFaultyProbeLine fields one → IsFaultyProbeLine fields other → one ≡ other

-- the fields of a probe's tag line say one tag at most, or are faulty for one reason, and never both
pub record TagLineLaws : Type 0 where
  pub told : (fields : List (List ℕ)) (one other : TagSpec) → SpellsTag fields one → SpellsTag fields other → one ≡ other
  pub not_faulty : (fields : List (List ℕ)) (tag : TagSpec) (fault : FaultReason) → SpellsTag fields tag → IsFaultyTagLine fields fault → ⊥
  pub one_fault : (fields : List (List ℕ)) (one other : FaultReason) → IsFaultyTagLine fields one → IsFaultyTagLine fields other → one ≡ other
