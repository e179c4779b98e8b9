-- Which line of a probe may stand where: it leads to one place, or is faulty for one reason.
use Rattle.std.proofs.Common.{◌≡◌, ℕ, List, [], length, refl, sym, ◌∙◌, ◌⊎◌, inl, inr, ap, arith}
use Rattle.text_fields.specs.Lines.{fields_of}
use Rattle.text_fields.specs.declared.fields_fault.FieldsFault.{FieldsFault}
use Rattle.text_fields.specs.declared.fields_fault.FieldsFault.TheVariants as reasons
use Rattle.checked_lines.specs.FaultWords.{reason_of}
use Rattle.checked_lines.specs.declared.fault.FaultReason.{FaultReason}
use Rattle.checked_lines.specs.declared.fault.FaultReason.TheVariants.{Word, Limit, Shape, Number}
use Rattle.checked_lines.specs.laws.OneOutcome.{AreUnambiguous, one_text}
use Rattle.scenario_lines.specs.declared.tag.TagSpec.{TagSpec}
use Rattle.bench_lines.specs.Stimuli.{ProbeLine, Stimulus}
use Rattle.bench_lines.specs.Stimuli as lines
use Rattle.bench_lines.specs.ProbeLineFaults.{IsFaultyProbeLine}
use Rattle.bench_lines.specs.laws.ProbeLineLaws.{ProbeLineLaws, TagLineLaws}
use Rattle.bench_lines.specs.ProbeLine.{SpellsProbeLine}
use Rattle.bench_lines.specs.ProbeText.{ProbeGoesTo, HasRoom, IsFaultyBehindTag, IsFaultyInProbe, IsProbe, IsStimulusTooMuch, ProbeStanding, after, begun, ended, probe_rules, start, within}

-- what single lines say
pub record Laws : Type 0 where
  pub lines : ProbeLineLaws
  pub tags : TagLineLaws

-- a line leads to one place
goes_once : Laws → (from one other : ProbeStanding) (line : List ℕ) → ProbeGoesTo from line one → ProbeGoesTo from line other → one ≡ other
goes_once laws start one other line goes goes' = goes.1 ∙ sym goes'.1
goes_once laws begun one other line goes goes' =
    goes.leads ∙ ap (λ (tag : TagSpec). within tag []) (laws.tags.told (fields_of line) goes.tag goes'.tag goes.spells goes'.spells) ∙ sym goes'.leads
goes_once laws (within tag said) one other line goes goes' =
    goes.leads ∙ ap (λ (it : ProbeLine). after tag said it) (laws.lines.told (fields_of line) goes.says goes'.says goes.spells goes'.spells) ∙ sym goes'.leads
goes_once laws (ended tag said) one other line goes goes' = absurd goes

-- a line that has room is none too many
room_or_too_much : (count : ℕ) (fields : List (List ℕ)) (says : ProbeLine) → SpellsProbeLine fields says → HasRoom count says → IsStimulusTooMuch count fields → ⊥
room_or_too_much count fields (lines.Does stimulus) spells room much = let full = much.full in omega arith
room_or_too_much count fields lines.End spells room much = much.needs (record { others = []; first = spells.spelling })

-- what may stand behind the tag is not faulty
said_not_faulty : Laws → (count : ℕ) (fields : List (List ℕ)) (says : ProbeLine) (fault : FaultReason) → SpellsProbeLine fields says → HasRoom count says
    → IsFaultyBehindTag count fields fault → ⊥
said_not_faulty laws count fields says Word spells room faulty = laws.lines.not_faulty fields says reasons.Word spells faulty
said_not_faulty laws count fields says Limit spells room faulty = room_or_too_much count fields says spells room faulty.1
said_not_faulty laws count fields says Shape spells room faulty = laws.lines.not_faulty fields says reasons.Shape spells faulty.1
said_not_faulty laws count fields says Number spells room faulty = laws.lines.not_faulty fields says reasons.Number spells faulty.1
said_not_faulty laws count fields says fault spells room faulty = faulty

here_not_faulty : Laws → (from to : ProbeStanding) (line : List ℕ) (fault : FaultReason) → ProbeGoesTo from line to → IsFaultyInProbe from line fault → ⊥
here_not_faulty laws start to line fault goes faulty = faulty.1 goes.0
here_not_faulty laws begun to line fault goes faulty = laws.tags.not_faulty (fields_of line) goes.tag fault goes.spells faulty
here_not_faulty laws (within tag said) to line fault goes faulty = said_not_faulty laws (length said) (fields_of line) goes.says fault goes.spells goes.room faulty
here_not_faulty laws (ended tag said) to line fault goes faulty = goes

-- a line is one too many, or faulty by its fields
abbrev IsLimit : ℕ → List (List ℕ) → FaultReason → Type 0
IsLimit count fields fault = (fault ≡ Limit) × (¬ IsFaultyProbeLine fields reasons.Word) × IsStimulusTooMuch count fields

-- ... where another reason than its first field comes only to a line that has room
record IsByFields (count : ℕ) (fields : List (List ℕ)) (fault : FaultReason) : Type 0 where
  reason : FieldsFault
  is : fault ≡ reason_of reason
  faulty : IsFaultyProbeLine fields reason
  room : (reason ≡ reasons.Word) ⊎ (¬ IsStimulusTooMuch count fields)

one_of : (count : ℕ) (fields : List (List ℕ)) (fault : FaultReason) → IsFaultyBehindTag count fields fault → IsLimit count fields fault ⊎ IsByFields count fields fault
one_of count fields Word faulty = inr (record { reason = reasons.Word; is = refl; faulty = faulty; room = inl refl })
one_of count fields Limit faulty = inl (refl, faulty.0, faulty.1)
one_of count fields Shape faulty = inr (record { reason = reasons.Shape; is = refl; faulty = faulty.1; room = inr faulty.0 })
one_of count fields Number faulty = inr (record { reason = reasons.Number; is = refl; faulty = faulty.1; room = inr faulty.0 })
one_of count fields fault faulty = absurd faulty

limit_or_fields : (count : ℕ) (fields : List (List ℕ)) (one other : FaultReason) → IsLimit count fields one → (by : IsByFields count fields other) → (by.reason ≡ reasons.Word) ⊎ (¬ IsStimulusTooMuch count fields) → ⊥
limit_or_fields count fields one other limit by (inl word) = limit.1 (rw (sym word) by.faulty)
limit_or_fields count fields one other limit by (inr room) = room limit.2

one_behind : Laws → (count : ℕ) (fields : List (List ℕ)) (one other : FaultReason) → IsLimit count fields one ⊎ IsByFields count fields one
    → IsLimit count fields other ⊎ IsByFields count fields other → one ≡ other
one_behind laws count fields one other (inl a) (inl b) = a.0 ∙ sym b.0
one_behind laws count fields one other (inl a) (inr b) = absurd (limit_or_fields count fields one other a b b.room)
one_behind laws count fields one other (inr a) (inl b) = absurd (limit_or_fields count fields other one b a a.room)
one_behind laws count fields one other (inr a) (inr b) =
    a.is ∙ ap (λ (reason : FieldsFault). reason_of reason) (laws.lines.one_fault fields a.reason b.reason a.faulty b.faulty) ∙ sym b.is

one_here : Laws → (from : ProbeStanding) (line : List ℕ) (one other : FaultReason) → IsFaultyInProbe from line one → IsFaultyInProbe from line other → one ≡ other
one_here laws start line one other faulty faulty' = faulty.0 ∙ sym faulty'.0
one_here laws begun line one other faulty faulty' = laws.tags.one_fault (fields_of line) one other faulty faulty'
one_here laws (within tag said) line one other faulty faulty' =
    one_behind laws (length said) (fields_of line) one other (one_of (length said) (fields_of line) one faulty) (one_of (length said) (fields_of line) other faulty')
one_here laws (ended tag said) line one other faulty faulty' = faulty ∙ sym faulty'

pub unambiguous : Laws → AreUnambiguous probe_rules
unambiguous laws = record { one_standing = goes_once laws; one_reason = one_here laws; not_faulty = here_not_faulty laws }

-- bytes are the text of one probe at most
pub probe_told : Laws → (bytes : List ℕ) (tag other_tag : TagSpec) (said other_said : List Stimulus) → IsProbe bytes tag said → IsProbe bytes other_tag other_said
    → (tag ≡ other_tag) × (said ≡ other_said)
probe_told laws bytes tag other_tag said other_said is is' =
    let same : ended tag said ≡ ended other_tag other_said = one_text probe_rules (unambiguous laws) bytes (ended tag said) (ended other_tag other_said) is is' in (cc, cc)
