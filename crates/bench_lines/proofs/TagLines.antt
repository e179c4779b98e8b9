-- Fields say one tag, or are faulty for one reason.
use Rattle.std.proofs.Common.{◌≡◌, ◌≢◌, ◌⊎◌, inl, inr, ℕ, List, refl, sym, ◌∙◌}
use Rattle.scenario_lines.specs.declared.keywords.Keyword.TheVariants as keywords
use Rattle.scenario_lines.specs.declared.line.Line.{Line}
use Rattle.scenario_lines.specs.declared.line.Line.TheVariants as lines
use Rattle.scenario_lines.specs.declared.tag.TagSpec.{TagSpec}
use Rattle.scenario_lines.specs.LineFaults.{IsFaultyBehind, IsFaultyLine}
use Rattle.scenario_lines.specs.SpelledLines.{SpellsLine}
use Rattle.scenario_lines.specs.LineForm.{HasForm}
use Rattle.scenario_lines.specs.Reading.{MisreadsTag}
use Rattle.scenario_lines.specs.Spelling.{keyword_of, other_fields, tag_spec_fields}
use Rattle.scenario_lines.specs.TagForm.{IsTagForm}
use Rattle.checked_lines.specs.declared.fault.FaultReason.{FaultReason}
use Rattle.checked_lines.specs.declared.fault.FaultReason.TheVariants.{Word, Shape, Number, Pc}
use Rattle.bench_lines.specs.laws.ProbeLineLaws.{TagLineLaws}
use Rattle.bench_lines.specs.ProbeLine.{SpellsTag}
use Rattle.bench_lines.specs.ProbeText.{BeginsAsTag, IsFaultyTagLine}

-- what the laws of a scenario's lines say
pub record Known : Type 0 where
  pub told : (fields : List (List ℕ)) (one other : Line) → SpellsLine fields one → SpellsLine fields other → one ≡ other
  pub not_faulty : (fields : List (List ℕ)) (line : Line) (fault : FaultReason) → SpellsLine fields line → IsFaultyLine fields fault → ⊥
  pub one_fault : (fields : List (List ℕ)) (one other : FaultReason) → IsFaultyLine fields one → IsFaultyLine fields other → one ≡ other

-- a tag line is one of a scenario
as_line : (fields : List (List ℕ)) (tag : TagSpec) → SpellsTag fields tag → SpellsLine fields (lines.Tag tag)
as_line fields tag spells = record { spelling = spells.spelling; is = record { form = spells.is.form; coherent = spells.is.pc } }

-- no other line of a scenario has the keyword of a tag
no_tag_line : (others : List (List ℕ)) → ((tag : TagSpec) → IsTagForm tag → others ≢ tag_spec_fields tag) → (line : Line) → HasForm line
    → keyword_of line ≡ keywords.Tag → others ≢ other_fields line
no_tag_line others none (lines.Tag tag) form same = none tag form
no_tag_line others none line form same = λ is. cc

-- the fields behind `tag` are as faulty in a scenario
behind_faulty : (others : List (List ℕ)) (fault : FaultReason) → MisreadsTag others fault → IsFaultyBehind keywords.Tag others fault
behind_faulty others Shape misreads = (tt, misreads)
behind_faulty others Number misreads = (misreads.0, no_tag_line others misreads.1)
behind_faulty others Pc misreads = misreads
behind_faulty others fault misreads = absurd misreads

-- the line doesn't begin as that of a tag, or it does and is as faulty as in a scenario
abbrev Fails : List (List ℕ) → FaultReason → Type 0
Fails fields fault = ((fault ≡ Word) × (¬ BeginsAsTag fields)) ⊎ (BeginsAsTag fields × IsFaultyLine fields fault)

fails : (fields : List (List ℕ)) (fault : FaultReason) → IsFaultyTagLine fields fault → Fails fields fault
fails fields Word faulty = inl (refl, faulty)
fails fields fault faulty =
    let behind = behind_faulty faulty.0.others fault faulty.1 in
    inr (faulty.0, record { keyword = keywords.Tag; others = faulty.0.others; first = faulty.0.first; faulty = behind })

-- what the fields behind `tag` are refused for is a fault of the line
pub line_faulty : (fields : List (List ℕ)) (begins : BeginsAsTag fields) (fault : FaultReason) → MisreadsTag begins.others fault → IsFaultyTagLine fields fault
line_faulty fields begins Word misreads = absurd misreads
line_faulty fields begins fault misreads = (begins, misreads)

tag_told : Known → (fields : List (List ℕ)) (one other : TagSpec) → SpellsTag fields one → SpellsTag fields other → one ≡ other
tag_told known fields one other spells spells' =
    let same = known.told fields (lines.Tag one) (lines.Tag other) (as_line fields one spells) (as_line fields other spells') in
    cc

tag_not_faulty : Known → (fields : List (List ℕ)) (tag : TagSpec) (fault : FaultReason) → SpellsTag fields tag → IsFaultyTagLine fields fault → ⊥
tag_not_faulty known fields tag fault spells faulty = elim (fails fields fault faulty) [
  | inl none ↦ none.1 (record { others = tag_spec_fields tag; first = spells.spelling })
  | inr begun ↦ known.not_faulty fields (lines.Tag tag) fault (as_line fields tag spells) begun.1
]

one_failure : Known → (fields : List (List ℕ)) (one other : FaultReason) → Fails fields one → Fails fields other → one ≡ other
one_failure known fields one other (inl none) (inl none') = none.0 ∙ sym none'.0
one_failure known fields one other (inl none) (inr begun) = absurd (none.1 begun.0)
one_failure known fields one other (inr begun) (inl none) = absurd (none.1 begun.0)
one_failure known fields one other (inr begun) (inr begun') = known.one_fault fields one other begun.1 begun'.1

one_tag_fault : Known → (fields : List (List ℕ)) (one other : FaultReason) → IsFaultyTagLine fields one → IsFaultyTagLine fields other → one ≡ other
one_tag_fault known fields one other faulty faulty' = one_failure known fields one other (fails fields one faulty) (fails fields other faulty')

pub tags_lawful : Known → TagLineLaws
tags_lawful known = record { told = tag_told known; not_faulty = tag_not_faulty known; one_fault = one_tag_fault known }
