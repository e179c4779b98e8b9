-- Fields spell one tag at most, and where they spell one they are not misread.
use Rattle.std.proofs.Common.{◌≡◌, ◌∷◌, ◌∙◌, List, ℕ, Result, Ok, Err, IfErr, IfOk, ap, false, sym, true}
use Rattle.std.specs.Prelude.{IsOkAnd}
use Rattle.text_fields.specs.NamedFields.{AreFilled}
use Rattle.tag_memory.specs.Image.{pc_fits}
use Rattle.checked_lines.specs.declared.fault.FaultReason.{FaultReason}
use Rattle.checked_lines.specs.declared.fault.FaultReason.TheVariants.{Shape, Number, Pc}
use Rattle.scenario_lines.specs.declared.keywords.Keyword.TheVariants as keywords
use Rattle.scenario_lines.specs.declared.line.Line.TheVariants as lines
use Rattle.scenario_lines.specs.declared.tag.TagSpec.{TagSpec}
use Rattle.scenario_lines.specs.Names.{keyword_text}
use Rattle.scenario_lines.specs.Reading.{Misreads}
use Rattle.scenario_lines.specs.Spelling.{tag_spec_fields}
use Rattle.scenario_lines.specs.TagForm.{IsTag, IsTagForm}
use Rattle.scenario_lines.proofs.LineShapes.{line_shape}
use Rattle.scenario_lines.proofs.ToldLines.{line_told}

tag_told : (one other : TagSpec) → IsTagForm one → IsTagForm other → tag_spec_fields one ≡ tag_spec_fields other → one ≡ other
tag_told one other form form' same =
    let told : lines.Tag one ≡ lines.Tag other =
    line_told (lines.Tag one) (lines.Tag other) form form' (ap (λ (others : List (List ℕ)). keyword_text keywords.Tag ∷ others) same) in
    cc

pub no_tag_misread : (others : List (List ℕ)) (fault : FaultReason) → Misreads (AreFilled 7) tag_spec_fields IsTagForm others fault
    → (tag : TagSpec) → IsTagForm tag → others ≡ tag_spec_fields tag → ⊥
no_tag_misread others Shape misread tag form spells = misread (rw spells (line_shape (lines.Tag tag) form))
no_tag_misread others Number misread tag form spells = misread.1 tag form spells
no_tag_misread others fault misread tag form spells = misread

-- what is made of parts that the fields spell is the tag that they spell
pub only_whole_tag : (parts : TagSpec) (others : List (List ℕ)) (result : Result TagSpec FaultReason) → others ≡ tag_spec_fields parts → IsTagForm parts
    → IfOk result (λ tag. (tag ≡ parts) × IsTag tag) → IfErr result (λ fault. (fault ≡ Pc) × (pc_fits parts.image ≡ false))
    → (tag : TagSpec) → IsTag tag → others ≡ tag_spec_fields tag → IsOkAnd result (λ it. it ≡ tag)
only_whole_tag parts others (Ok it) spelled form ok broken tag is spells = ok.0 ∙ tag_told parts tag form is.form (sym spelled ∙ spells)
only_whole_tag parts others (Err fault) spelled form ok broken tag is spells =
    let same = tag_told parts tag form is.form (sym spelled ∙ spells) in
    let fits : pc_fits parts.image ≡ true = ap (λ (tag : TagSpec). pc_fits tag.image) same ∙ is.pc in
    let passes = broken.1 in
    absurd cc
