-- What single answer lines say, together.
use Rattle.std.specs.Prelude.{◌≡◌, ℕ, List, Option}
use Rattle.log_judge.specs.Log.{Seen}
use Rattle.text_fields.specs.declared.fields_fault.FieldsFault.{FieldsFault}
use Rattle.bench_lines.specs.SeenLine.{AreFaultySeen, SpellSeen}

-- the fields behind `answer` say one answer at most, or are faulty for one reason, and never both
pub record SeenLaws : Type 0 where
  pub told : (others : List (List ℕ)) (one other : Option Seen) → SpellSeen others one → SpellSeen others other → one ≡ other
  pub not_faulty : (others : List (List ℕ)) (seen : Option Seen) (fault : FieldsFault) → SpellSeen others seen → AreFaultySeen others fault → ⊥
  pub one_fault : (others : List (List ℕ)) (one other : FieldsFault) → AreFaultySeen others one → AreFaultySeen others other → one ≡ other
