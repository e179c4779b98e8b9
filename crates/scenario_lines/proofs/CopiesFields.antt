-- The fields of copies: a number, and the fields of a tag.
use Rattle.std.proofs.Common.{◌≡◌, ◌≢◌, ℕ, List, [], ◌∷◌, refl}
use Rattle.text_fields.specs.NamedFields.{AreFilled}
use Rattle.text_fields.proofs.FilledFields.{one_less, one_more}
use Rattle.scenario_lines.specs.declared.tag.TagSpec.{TagSpec}
use Rattle.scenario_lines.specs.declared.line.Line.TheVariants as lines
use Rattle.checked_lines.specs.declared.fault.FaultReason.{FaultReason}
use Rattle.checked_lines.specs.declared.fault.FaultReason.TheVariants as faults
use Rattle.scenario_lines.specs.TagForm.{IsTagForm}
use Rattle.scenario_lines.specs.Spelling.{tag_spec_fields}
use Rattle.scenario_lines.specs.Reading.{Misreads, MisreadsCopies}
use Rattle.scenario_lines.proofs.FirstNumbers.{first_number}
use Rattle.scenario_lines.proofs.LineShapes.{line_shape}

-- behind a number, the fields of a tag are as many as copies have
pub copies_filled : (field : List ℕ) (rest : List (List ℕ)) (tag : TagSpec) → field ≢ [] → rest ≡ tag_spec_fields tag → IsTagForm tag
    → AreFilled 8 (field ∷ rest)
copies_filled field rest tag filled spells form = one_more 7 field rest filled (rw spells (line_shape (lines.Tag tag) form))

-- what the fields behind the number lack, those of copies lack
pub copies_misread : (field : List ℕ) (rest : List (List ℕ)) (fault : FaultReason) → field ≢ [] → Misreads (AreFilled 7) tag_spec_fields IsTagForm rest fault
    → MisreadsCopies (field ∷ rest) fault
copies_misread field rest faults.Shape filled misread = λ are. misread (one_less 7 field rest are).1
copies_misread field rest faults.Number filled misread =
    (one_more 7 field rest filled misread.0, λ count tag number form spells. misread.1 tag form (first_number field rest _ count refl spells).1)
copies_misread field rest fault filled misread = absurd misread
