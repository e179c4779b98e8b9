-- Fields spell a line, or are faulty for one reason.
use Rattle.std.proofs.Common.{◌≡◌, ℕ, true, false, List, ◌∷◌, Result, Ok, Err, IfErr, IfOk, ap, ap₂, refl, sym, ◌∙◌, subst}
use Rattle.std.specs.Prelude.{IsOkAnd}
use Rattle.tag_memory.specs.Image.{pc_fits}
use Rattle.pie_line.specs.Link.{IsLegalLink, LinkValue}
use Rattle.pie_line.specs.LinkRefusal.{IsFirstBroken}
use Rattle.pie_line.specs.declared.link.LinkRefusal.{LinkRefusal}
use Rattle.pie_line.specs.declared.link.LinkRefusal.TheVariants as refusals
use Rattle.scenario_lines.specs.declared.keywords.Keyword.{Keyword}
use Rattle.scenario_lines.specs.declared.keywords.Keyword.TheVariants as keywords
use Rattle.scenario_lines.specs.declared.line.Line.{Line}
use Rattle.scenario_lines.specs.declared.line.Line.TheVariants as lines
use Rattle.checked_lines.specs.declared.fault.FaultReason.{FaultReason}
use Rattle.checked_lines.specs.declared.fault.FaultReason.TheVariants.{Word as WordFault, Shape, Number, Tari, RtCal, TrCal, Pw, Pc}
use Rattle.scenario_lines.specs.Names.{keyword_text}
use Rattle.scenario_lines.specs.LineForm.{HasForm, IsCoherent}
use Rattle.scenario_lines.specs.LineFaults.{BeginsWithKeyword, BreaksLink, HasKnownKind, HasShape, IsFaultyLine, IsFaultyBehind}
use Rattle.scenario_lines.specs.SpelledLines.{SpellsBehind, SpellsLine}
use Rattle.scenario_lines.specs.Spelling.{line_fields, other_fields, keyword_of}
use Rattle.scenario_lines.specs.Reading.{link_fault}
use Rattle.scenario_lines.proofs.LineShapes.{line_shape, shaped_known}
use Rattle.scenario_lines.proofs.ToldLines.{line_told, same_fields, spelled_told}
use Rattle.scenario_lines.proofs.ToldNames.{keyword_told}

-- a keyword of a scenario stands at the head, with a kind that is known where a kind is there
abbrev Begins : List (List ℕ) → Type 0
Begins fields = (keyword : Keyword) × BeginsWithKeyword fields keyword

-- ... and behind it are the fields that it wants
record Shaped (fields : List (List ℕ)) : Type 0 where
  keyword : Keyword
  others : List (List ℕ)
  first : fields ≡ keyword_text keyword ∷ others
  shape : HasShape keyword others

-- ... and each of them is of its form and range
record Formed (fields : List (List ℕ)) : Type 0 where
  line : Line
  spelling : fields ≡ line_fields line
  form : HasForm line

-- the fields of the line don't agree with one another, for this reason
abbrev Disagrees : Line → FaultReason → Type 0
Disagrees (lines.Link link) fault =
    (refusal : LinkRefusal) × (fault ≡ link_fault refusal) × IsFirstBroken refusal link.tari link.rtcal link.trcal link.pw
Disagrees (lines.Tag tag) fault = (fault ≡ Pc) × (pc_fits tag.image ≡ false)
Disagrees (lines.Copies count tag) fault = (fault ≡ Pc) × (pc_fits tag.image ≡ false)
Disagrees line fault = ⊥

-- how far the fields go, and where they stop
data Stops (fields : List (List ℕ)) (fault : FaultReason) : Type 0 where
  unknown : fault ≡ WordFault → ¬ Begins fields → Stops fields fault
  unshaped : fault ≡ Shape → Begins fields → ¬ Shaped fields → Stops fields fault
  unformed : fault ≡ Number → Shaped fields → ¬ Formed fields → Stops fields fault
  apart : (formed : Formed fields) → Disagrees formed.line fault → Stops fields fault

begun : (fields : List (List ℕ)) → Shaped fields → Begins fields
begun fields has = (has.keyword, record { others = has.others; first = has.first; kind = shaped_known has.keyword has.others has.shape })

shape_of : (fields : List (List ℕ)) → Formed fields → Shaped fields
shape_of fields formed = record {
  keyword = keyword_of formed.line;
  others = other_fields formed.line;
  first = formed.spelling;
  shape = line_shape formed.line formed.form;
}

-- a link is refused for one reason
broken_once : (one other : LinkRefusal) (tari rtcal trcal pw : ℕ) → IsFirstBroken one tari rtcal trcal pw → IsFirstBroken other tari rtcal trcal pw → one ≡ other
broken_once refusals.Tari refusals.Tari tari rtcal trcal pw broken broken' = refl
broken_once refusals.RtCal refusals.RtCal tari rtcal trcal pw broken broken' = refl
broken_once refusals.TrCal refusals.TrCal tari rtcal trcal pw broken broken' = refl
broken_once refusals.Pw refusals.Pw tari rtcal trcal pw broken broken' = refl
broken_once refusals.Tari other tari rtcal trcal pw broken broken' = absurd (broken broken'.0)
broken_once one refusals.Tari tari rtcal trcal pw broken broken' = absurd (broken' broken.0)
broken_once refusals.RtCal other tari rtcal trcal pw broken broken' = absurd (broken.1 broken'.1)
broken_once one refusals.RtCal tari rtcal trcal pw broken broken' = absurd (broken'.1 broken.1)
broken_once refusals.TrCal refusals.Pw tari rtcal trcal pw broken broken' = absurd (broken.2 broken'.2)
broken_once refusals.Pw refusals.TrCal tari rtcal trcal pw broken broken' = absurd (broken'.2 broken.2)

disagrees_once : (line : Line) (one other : FaultReason) → Disagrees line one → Disagrees line other → one ≡ other
disagrees_once (lines.Link link) one other broken broken' =
    broken.1 ∙ ap link_fault (broken_once broken.0 broken'.0 link.tari link.rtcal link.trcal link.pw broken.2 broken'.2) ∙ sym broken'.1
disagrees_once (lines.Tag tag) one other broken broken' = broken.0 ∙ sym broken'.0
disagrees_once (lines.Copies count tag) one other broken broken' = broken.0 ∙ sym broken'.0
disagrees_once line one other broken broken' = absurd broken

-- a link that is refused is not legal
broken_illegal : (refusal : LinkRefusal) (link : LinkValue) → IsFirstBroken refusal link.tari link.rtcal link.trcal link.pw → IsLegalLink link → ⊥
broken_illegal refusals.Tari link broken legal = broken legal.tari_range
broken_illegal refusals.RtCal link broken legal = broken.1 legal.rtcal_range
broken_illegal refusals.TrCal link broken legal = broken.2 legal.trcal_range
broken_illegal refusals.Pw link broken legal = broken.3 legal.pw_range

-- fields that don't agree with one another stand in no scenario
disagrees_incoherent : (line : Line) (fault : FaultReason) → Disagrees line fault → IsCoherent line → ⊥
disagrees_incoherent (lines.Link link) fault broken coherent = broken_illegal broken.0 link broken.2 coherent
disagrees_incoherent (lines.Tag tag) fault broken coherent = let e : false ≡ true = sym broken.1 ∙ coherent in cc
disagrees_incoherent (lines.Copies count tag) fault broken coherent = let e : false ≡ true = sym broken.1 ∙ coherent in cc
disagrees_incoherent line fault broken coherent = broken

formed_same : (fields : List (List ℕ)) (one other : Formed fields) → one.line ≡ other.line
formed_same fields one other = line_told one.line other.line one.form other.form (sym one.spelling ∙ other.spelling)

stops_once : (fields : List (List ℕ)) (one other : FaultReason) → Stops fields one → Stops fields other → one ≡ other
stops_once fields one other (unknown is none) (unknown is' none') = is ∙ sym is'
stops_once fields one other (unshaped is begins none) (unshaped is' begins' none') = is ∙ sym is'
stops_once fields one other (unformed is shape none) (unformed is' shape' none') = is ∙ sym is'
stops_once fields one other (apart formed broken) (apart formed' broken') =
    disagrees_once formed.line one other broken (subst (λ line. Disagrees line other) (formed_same fields formed' formed) broken')
stops_once fields one other (unknown is none) (unshaped is' begins none') = absurd (none begins)
stops_once fields one other (unknown is none) (unformed is' shape none') = absurd (none (begun fields shape))
stops_once fields one other (unknown is none) (apart formed broken) = absurd (none (begun fields (shape_of fields formed)))
stops_once fields one other (unshaped is begins none) (unformed is' shape none') = absurd (none shape)
stops_once fields one other (unshaped is begins none) (apart formed broken) = absurd (none (shape_of fields formed))
stops_once fields one other (unformed is shape none) (apart formed broken) = absurd (none formed)
stops_once fields one other (unshaped is begins none) (unknown is' none') = absurd (none' begins)
stops_once fields one other (unformed is shape none) (unknown is' none') = absurd (none' (begun fields shape))
stops_once fields one other (apart formed broken) (unknown is' none') = absurd (none' (begun fields (shape_of fields formed)))
stops_once fields one other (unformed is shape none) (unshaped is' begins none') = absurd (none' shape)
stops_once fields one other (apart formed broken) (unshaped is' begins none') = absurd (none' (shape_of fields formed))
stops_once fields one other (apart formed broken) (unformed is' shape none') = absurd (none' formed)

-- a first field and those behind it are read in one way
one_reading : (fields : List (List ℕ)) (one other : Keyword) (others others' : List (List ℕ)) → fields ≡ keyword_text one ∷ others
    → fields ≡ keyword_text other ∷ others' → (one ≡ other) × (others ≡ others')
one_reading fields one other others others' first first' =
    let same = same_fields (keyword_text one) (keyword_text other) others others' (sym first ∙ first') in
    (keyword_told one other same.0, same.1)

broken_link : (fields : List (List ℕ)) (refusal : LinkRefusal) (others : List (List ℕ)) → fields ≡ keyword_text keywords.Link ∷ others
    → BreaksLink refusal others → Stops fields (link_fault refusal)
broken_link fields refusal others first breaks =
    let line = lines.Link breaks.link in
    apart (record { line = line; spelling = first ∙ ap (λ (list : List (List ℕ)). keyword_text keywords.Link ∷ list) breaks.spelling; form = breaks.form })
    (refusal, refl, breaks.broken)

link_stop : (fields : List (List ℕ)) (refusal : LinkRefusal) (keyword : Keyword) (others : List (List ℕ)) → fields ≡ keyword_text keyword ∷ others
    → IsFaultyBehind keyword others (link_fault refusal) → Stops fields (link_fault refusal)
link_stop fields refusals.Tari keywords.Link others first breaks = broken_link fields refusals.Tari others first breaks
link_stop fields refusals.RtCal keywords.Link others first breaks = broken_link fields refusals.RtCal others first breaks
link_stop fields refusals.TrCal keywords.Link others first breaks = broken_link fields refusals.TrCal others first breaks
link_stop fields refusals.Pw keywords.Link others first breaks = broken_link fields refusals.Pw others first breaks
link_stop fields refusal keyword others first breaks = absurd breaks

tag_stop : (fields : List (List ℕ)) (keyword : Keyword) (others : List (List ℕ)) → fields ≡ keyword_text keyword ∷ others → IsFaultyBehind keyword others Pc
    → Stops fields Pc
tag_stop fields keywords.Tag others first breaks =
    let line = lines.Tag breaks.tag in
    apart (record { line = line; spelling = first ∙ ap (λ (list : List (List ℕ)). keyword_text keywords.Tag ∷ list) breaks.spelling; form = breaks.form })
    (refl, breaks.broken)
tag_stop fields keywords.Copies others first breaks =
    let line = lines.Copies breaks.count breaks.tag in
    let spelling = first ∙ ap (λ (list : List (List ℕ)). keyword_text keywords.Copies ∷ list) breaks.spelling in
    apart (record { line = line; spelling = spelling; form = (breaks.number, breaks.form) }) (refl, breaks.broken)
tag_stop fields keyword others first breaks = absurd breaks

stop_of : (fields : List (List ℕ)) (fault : FaultReason) → IsFaultyLine fields fault → Stops fields fault
stop_of fields WordFault faulty = unknown refl (λ begins. faulty begins.0 begins.1)
stop_of fields Shape faulty =
    unshaped refl (faulty.keyword, record { others = faulty.others; first = faulty.first; kind = faulty.faulty.0 })
    (λ has. let same = one_reading fields has.keyword faulty.keyword has.others faulty.others has.first faulty.first in
    faulty.faulty.1 (subst (λ keyword. HasShape keyword faulty.others) same.0 (subst (λ others. HasShape has.keyword others) same.1 has.shape)))
stop_of fields Number faulty =
    unformed refl (record { keyword = faulty.keyword; others = faulty.others; first = faulty.first; shape = faulty.faulty.0 })
    (λ has. let same = one_reading fields (keyword_of has.line) faulty.keyword (other_fields has.line) faulty.others has.spelling faulty.first in
    faulty.faulty.1 has.line has.form same.0 (sym same.1))
stop_of fields Tari faulty = link_stop fields refusals.Tari faulty.keyword faulty.others faulty.first faulty.faulty
stop_of fields RtCal faulty = link_stop fields refusals.RtCal faulty.keyword faulty.others faulty.first faulty.faulty
stop_of fields TrCal faulty = link_stop fields refusals.TrCal faulty.keyword faulty.others faulty.first faulty.faulty
stop_of fields Pw faulty = link_stop fields refusals.Pw faulty.keyword faulty.others faulty.first faulty.faulty
stop_of fields Pc faulty = tag_stop fields faulty.keyword faulty.others faulty.first faulty.faulty
stop_of fields fault faulty = absurd faulty.faulty

-- fields that agree with one another stop nowhere
goes_on : (fields : List (List ℕ)) (fault : FaultReason) (formed : Formed fields) → IsCoherent formed.line → Stops fields fault → ⊥
goes_on fields fault formed coherent (unknown is none) = none (begun fields (shape_of fields formed))
goes_on fields fault formed coherent (unshaped is begins none) = none (shape_of fields formed)
goes_on fields fault formed coherent (unformed is shape none) = none formed
goes_on fields fault formed coherent (apart formed' broken) =
    disagrees_incoherent formed.line fault (subst (λ line. Disagrees line fault) (formed_same fields formed' formed) broken) coherent

pub spelled_not_faulty : (fields : List (List ℕ)) (line : Line) (fault : FaultReason) → SpellsLine fields line → IsFaultyLine fields fault → ⊥
spelled_not_faulty fields line fault spells faulty =
    goes_on fields fault (record { line = line; spelling = spells.spelling; form = spells.is.form }) spells.is.coherent (stop_of fields fault faulty)

pub faulty_once : (fields : List (List ℕ)) (one other : FaultReason) → IsFaultyLine fields one → IsFaultyLine fields other → one ≡ other
faulty_once fields one other faulty faulty' = stops_once fields one other (stop_of fields one faulty) (stop_of fields other faulty')

-- what is spelled behind a keyword is spelled with it
spelled_whole : (keyword : Keyword) (others : List (List ℕ)) (line : Line) → SpellsBehind keyword others line → SpellsLine (keyword_text keyword ∷ others) line
spelled_whole keyword others line spells =
    record { spelling = ap₂ (λ first rest. keyword_text first ∷ rest) (sym spells.same_keyword) spells.spelling; is = spells.is }

not_faulty_behind : (keyword : Keyword) (others : List (List ℕ)) (line : Line) (fault : FaultReason) → SpellsBehind keyword others line → IsFaultyBehind keyword others fault → ⊥
not_faulty_behind keyword others line WordFault spells faulty =
    let known = shaped_known (keyword_of line) (other_fields line) (line_shape line spells.is.form) in
    faulty (subst (λ first. HasKnownKind first others) spells.same_keyword (subst (HasKnownKind (keyword_of line)) (sym spells.spelling) known))
not_faulty_behind keyword others line fault spells faulty =
    spelled_not_faulty (keyword_text keyword ∷ others) line fault (spelled_whole keyword others line spells)
    (record { keyword = keyword; others = others; first = refl; faulty = faulty })

-- a reader of the fields behind a keyword reads what they spell: they spell no other line, and aren't faulty
pub only_spelled : (keyword : Keyword) (others : List (List ℕ)) (result : Result Line FaultReason) → IfOk result (SpellsBehind keyword others)
    → IfErr result (IsFaultyBehind keyword others) → (said : Line) → SpellsBehind keyword others said → IsOkAnd result (λ it. it ≡ said)
only_spelled keyword others (Ok line) ok refused said spells =
    spelled_told (keyword_text keyword ∷ others) line said (spelled_whole keyword others line ok) (spelled_whole keyword others said spells)
only_spelled keyword others (Err fault) ok refused said spells = not_faulty_behind keyword others said fault spells refused
