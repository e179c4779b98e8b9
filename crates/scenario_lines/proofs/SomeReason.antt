-- Fields spell a line, or there is a reason for which they spell none.
use Rattle.std.proofs.Common.{◌≡◌, ◌≤◌, ◌*◌, ◌⊎◌, ℕ, Bool, true, false, List, [], ◌∷◌, refl, sym, ◌∙◌, ap, subst, inl, inr}
use Rattle.tag_memory.specs.Image.{pc_fits}
use Rattle.pie_line.specs.Link.{IsLegalLink, IsPw, LinkValue}
use Rattle.pie_line.specs.LinkRefusal.{IsFirstBroken}
use Rattle.pie_line.specs.declared.link.LinkRefusal.{LinkRefusal}
use Rattle.pie_line.specs.declared.link.LinkRefusal.TheVariants as refusals
use Rattle.scenario_lines.specs.declared.keywords.AirKind.{AirKind}
use Rattle.scenario_lines.specs.declared.keywords.Keyword.{Keyword}
use Rattle.scenario_lines.specs.declared.keywords.Keyword.TheVariants as keywords
use Rattle.scenario_lines.specs.declared.tag.TagSpec.{TagSpec}
use Rattle.scenario_lines.specs.declared.line.Line.{Line}
use Rattle.scenario_lines.specs.declared.line.Line.TheVariants as lines
use Rattle.checked_lines.specs.declared.fault.FaultReason.{FaultReason}
use Rattle.checked_lines.specs.declared.fault.FaultReason.TheVariants.{Word as WordFault, Shape, Number, Pc}
use Rattle.scenario_lines.specs.Names.{air_field_count, air_word, all_keywords, event_field_count, op_field_count, keyword_found, keyword_text}
use Rattle.scenario_lines.specs.LineForm.{HasForm, IsCoherent, IsLinkForm}
use Rattle.scenario_lines.specs.TagForm.{IsTagForm}
use Rattle.scenario_lines.specs.LineFaults.{BeginsWithKeyword, BreaksPc, BreaksPcOfCopies, HasKnownKind, HasShape, IsFaultyLine}
use Rattle.scenario_lines.specs.SpelledLines.{SpellsLine}
use Rattle.text_fields.specs.NamedFields.{AreFilled}
use Rattle.text_fields.proofs.FilledFields.{Filled}
use Rattle.scenario_lines.specs.Reading.{link_fault}
use Rattle.scenario_lines.specs.Spelling.{copies_fields, line_fields, link_fields, tag_spec_fields, keyword_of}
use Rattle.scenario_lines.proofs.Decisions.{Any, Decided, Spelled, both, le_decided, same_answer}
use Rattle.scenario_lines.proofs.FieldsDecided.{named_decided}
use Rattle.scenario_lines.proofs.KindsDecided.{filled_decided}
use Rattle.scenario_lines.proofs.LinesDecided.{air_kind_decided, event_kind_decided, formed_behind, op_kind_decided}
use Rattle.scenario_lines.proofs.ToldLines.{same_fields}
use Rattle.scenario_lines.proofs.ToldNames.{air_word_told, event_word_told, op_word_told, keyword_told}

keyword_decided : (field : List ℕ) → Decided (Spelled keyword_text Any field)
keyword_decided = named_decided keyword_text all_keywords keyword_found

-- the kind, where one is there
kind_decided : (first : Keyword) (others : List (List ℕ)) → Decided (HasKnownKind first others)
kind_decided keywords.Air (exchange ∷ kind ∷ others) =
    same_answer (λ found. (found.0, found.2)) (λ known. (known.0, tt, known.1)) (air_kind_decided kind)
kind_decided keywords.Event (kind ∷ others) = same_answer (λ found. (found.0, found.2)) (λ known. (known.0, tt, known.1)) (event_kind_decided kind)
kind_decided keywords.Op (kind ∷ others) = same_answer (λ found. (found.0, found.2)) (λ known. (known.0, tt, known.1)) (op_kind_decided kind)
kind_decided keyword others = inl tt

field_filled : (field : List ℕ) → Decided (Filled field)
field_filled [] = inr (λ filled. filled refl)
field_filled (byte ∷ bytes) = inl (λ same. cc)

same_air_kind : (kind : List ℕ) (known other : AirKind) → kind ≡ air_word known → kind ≡ air_word other → other ≡ known
same_air_kind kind known other is is' = air_word_told other known (sym is' ∙ is)

air_shape_decided : (exchange kind : List ℕ) (others : List (List ℕ)) → Decided (HasShape keywords.Air (exchange ∷ kind ∷ others))
air_shape_decided exchange kind others = elim (air_kind_decided kind) [
  | inr unknown ↦ inr (λ shape. unknown (shape.1, tt, shape.2))
  | inl known ↦ same_answer (λ (pair : Filled exchange × AreFilled (air_field_count known.0) others). (pair.0, known.0, known.2, pair.1))
      (λ shape. (shape.0, subst (λ other. AreFilled (air_field_count other) others) (same_air_kind kind known.0 shape.1 known.2 shape.2) shape.3))
      (both (field_filled exchange) (filled_decided (air_field_count known.0) others))
]

event_shape_decided : (kind : List ℕ) (others : List (List ℕ)) → Decided (HasShape keywords.Event (kind ∷ others))
event_shape_decided kind others = elim (event_kind_decided kind) [
  | inr unknown ↦ inr (λ shape. unknown (shape.0, tt, shape.1))
  | inl known ↦ same_answer (λ (are : AreFilled (event_field_count known.0) others). (known.0, known.2, are))
      (λ shape. subst (λ other. AreFilled (event_field_count other) others) (event_word_told shape.0 known.0 (sym shape.1 ∙ known.2)) shape.2)
      (filled_decided (event_field_count known.0) others)
]

op_shape_decided : (kind : List ℕ) (others : List (List ℕ)) → Decided (HasShape keywords.Op (kind ∷ others))
op_shape_decided kind others = elim (op_kind_decided kind) [
  | inr unknown ↦ inr (λ shape. unknown (shape.0, tt, shape.1))
  | inl known ↦ same_answer (λ (are : AreFilled (op_field_count known.0) others). (known.0, known.2, are))
      (λ shape. subst (λ other. AreFilled (op_field_count other) others) (op_word_told shape.0 known.0 (sym shape.1 ∙ known.2)) shape.2)
      (filled_decided (op_field_count known.0) others)
]

shape_decided : (first : Keyword) (others : List (List ℕ)) → Decided (HasShape first others)
shape_decided keywords.Version others = filled_decided 1 others
shape_decided keywords.Link others = filled_decided 7 others
shape_decided keywords.Default others = filled_decided 1 others
shape_decided keywords.Tag others = filled_decided 7 others
shape_decided keywords.Copies others = filled_decided 8 others
shape_decided keywords.Air [] = inr (λ shape. shape)
shape_decided keywords.Air (exchange ∷ []) = inr (λ shape. shape)
shape_decided keywords.Air (exchange ∷ kind ∷ others) = air_shape_decided exchange kind others
shape_decided keywords.Select others = filled_decided 5 others
shape_decided keywords.Nak others = filled_decided 0 others
shape_decided keywords.Event [] = inr (λ shape. shape)
shape_decided keywords.Event (kind ∷ others) = event_shape_decided kind others
shape_decided keywords.Round others = filled_decided 6 others
shape_decided keywords.Only others = filled_decided 1 others
shape_decided keywords.Op [] = inr (λ shape. shape)
shape_decided keywords.Op (kind ∷ others) = op_shape_decided kind others
shape_decided keywords.End others = filled_decided 0 others

-- Some keyword of a scenario stands at the head of fields, with a kind that is known where a kind is there, or none does.
pub some_keyword : (fields : List (List ℕ)) → ((keyword : Keyword) × BeginsWithKeyword fields keyword) ⊎ IsFaultyLine fields WordFault
some_keyword [] = inr (λ keyword begins. let first = begins.first in cc)
some_keyword (field ∷ others) = elim (keyword_decided field) [
  | inr unknown ↦ inr (λ keyword begins. unknown (keyword, tt, (same_fields field (keyword_text keyword) others begins.others begins.first).0))
  | inl found ↦ elim (kind_decided found.0 others) [
    | inl known ↦ inl (found.0, record { others = others; first = ap (λ (text : List ℕ). text ∷ others) found.2; kind = known })
    | inr unknown ↦ inr (λ keyword begins.
        let same = same_fields field (keyword_text keyword) others begins.others begins.first in
        let word_is = keyword_told keyword found.0 (sym same.0 ∙ found.2) in
        unknown (subst (λ first. HasKnownKind first others) word_is (subst (HasKnownKind keyword) (sym same.1) begins.kind)))
  ]
]

-- the link is legal, or one of its parameters is the first that is refused
pw_decided : (tari pw : ℕ) → Decided (IsPw tari pw)
pw_decided tari pw =
    same_answer (λ (all : (2000 ≤ pw) × ((265 * tari ≤ 1000 * pw) × (1000 * pw ≤ 525 * tari))). (all.0, all.1.0, all.1.1))
    (λ is. (is.0, (is.1, is.2))) (both (le_decided 2000 pw) (both (le_decided (265 * tari) (1000 * pw)) (le_decided (1000 * pw) (525 * tari))))

refusal_of : (link : LinkValue) → IsLegalLink link ⊎ ((refusal : LinkRefusal) × IsFirstBroken refusal link.tari link.rtcal link.trcal link.pw)
refusal_of link = elim (both (le_decided 6250 link.tari) (le_decided link.tari 25000)) [
  | inr out ↦ inr (refusals.Tari, out)
  | inl tari ↦ elim (both (le_decided (5 * link.tari) (2 * link.rtcal)) (le_decided link.rtcal (3 * link.tari))) [
    | inr out ↦ inr (refusals.RtCal, (tari, out))
    | inl rtcal ↦ elim (both (le_decided (11 * link.rtcal) (10 * link.trcal)) (le_decided link.trcal (3 * link.rtcal))) [
      | inr out ↦ inr (refusals.TrCal, (tari, rtcal, out))
      | inl trcal ↦ elim (pw_decided link.tari link.pw) [
        | inr out ↦ inr (refusals.Pw, (tari, rtcal, trcal, out))
        | inl pw ↦ inl (record { tari_range = tari; rtcal_range = rtcal; trcal_range = trcal; pw_range = pw })
      ]
    ]
  ]
]

-- what fields with a first field say
abbrev SaysOrIsFaulty : List (List ℕ) → Type 0
SaysOrIsFaulty fields = ((line : Line) × SpellsLine fields line) ⊎ ((fault : FaultReason) × IsFaultyLine fields fault)

link_breaks : (fields : List (List ℕ)) (refusal : LinkRefusal) (link : LinkValue) → fields ≡ line_fields (lines.Link link) → IsLinkForm link
    → IsFirstBroken refusal link.tari link.rtcal link.trcal link.pw → IsFaultyLine fields (link_fault refusal)
link_breaks fields refusals.Tari link is form broken =
    record { keyword = keywords.Link; others = link_fields link; first = is; faulty = record { link = link; spelling = refl; form = form; broken = broken } }
link_breaks fields refusals.RtCal link is form broken =
    record { keyword = keywords.Link; others = link_fields link; first = is; faulty = record { link = link; spelling = refl; form = form; broken = broken } }
link_breaks fields refusals.TrCal link is form broken =
    record { keyword = keywords.Link; others = link_fields link; first = is; faulty = record { link = link; spelling = refl; form = form; broken = broken } }
link_breaks fields refusals.Pw link is form broken =
    record { keyword = keywords.Link; others = link_fields link; first = is; faulty = record { link = link; spelling = refl; form = form; broken = broken } }

-- fields that agree with one another
says : (fields : List (List ℕ)) (line : Line) → fields ≡ line_fields line → HasForm line → IsCoherent line → SaysOrIsFaulty fields
says fields line is form coherent = inl (line, record { spelling = is; is = record { form = form; coherent = coherent } })

-- a tag, whose PC fits its EPC bank or does not
pc_reason : (fields : List (List ℕ)) (tag : TagSpec) (fits : Bool) → pc_fits tag.image ≡ fits → fields ≡ line_fields (lines.Tag tag) → IsTagForm tag → SaysOrIsFaulty fields
pc_reason fields tag true fits is form = says fields (lines.Tag tag) is form fits
pc_reason fields tag false fits is form =
    let faulty : BreaksPc (tag_spec_fields tag) = record { tag = tag; spelling = refl; form = form; broken = fits } in
    inr (Pc, record { keyword = keywords.Tag; others = tag_spec_fields tag; first = is; faulty = faulty })

copies_reason : (fields : List (List ℕ)) (count : ℕ) (tag : TagSpec) (fits : Bool) → pc_fits tag.image ≡ fits
    → fields ≡ line_fields (lines.Copies count tag) → HasForm (lines.Copies count tag) → SaysOrIsFaulty fields
copies_reason fields count tag true fits is form = says fields (lines.Copies count tag) is form fits
copies_reason fields count tag false fits is form =
    let faulty : BreaksPcOfCopies (copies_fields count tag) = record { count = count; tag = tag; spelling = refl; number = form.0; form = form.1; broken = fits } in
    inr (Pc, record { keyword = keywords.Copies; others = copies_fields count tag; first = is; faulty = faulty })

-- fields that are each of their form and range agree with one another, or don't
coherent_or_not : (fields : List (List ℕ)) (line : Line) → HasForm line → fields ≡ line_fields line → SaysOrIsFaulty fields
coherent_or_not fields (lines.Link link) form is = elim (refusal_of link) [
  | inl legal ↦ says fields (lines.Link link) is form legal
  | inr broken ↦ inr (link_fault broken.0, link_breaks fields broken.0 link is form broken.1)
]
coherent_or_not fields (lines.Tag tag) form is = pc_reason fields tag (pc_fits tag.image) refl is form
coherent_or_not fields (lines.Copies count tag) form is = copies_reason fields count tag (pc_fits tag.image) refl is form
coherent_or_not fields line form is = says fields line is form tt

behind_or_not : (fields : List (List ℕ)) (keyword : Keyword) (others : List (List ℕ)) → fields ≡ keyword_text keyword ∷ others → HasKnownKind keyword others → SaysOrIsFaulty fields
behind_or_not fields keyword others first known = elim (shape_decided keyword others) [
  | inr unshaped ↦ inr (Shape, record { keyword = keyword; others = others; first = first; faulty = (known, unshaped) })
  | inl shape ↦ elim (formed_behind keyword others) [
    | inr unformed ↦ inr (
      Number,
      record {
        keyword = keyword;
        others = others;
        first = first;
        faulty = (shape, λ line form same is. unformed (line, form, same, is));
      },
    )
    | inl formed ↦ coherent_or_not fields formed.0 formed.1
        (first ∙ ap (λ (text : List ℕ). text ∷ others) (ap keyword_text (sym formed.2)) ∙ ap (λ (rest : List (List ℕ)). keyword_text (keyword_of formed.0) ∷ rest) formed.3)
  ]
]

-- fields spell a line, or are faulty for some reason
pub some_reason : (fields : List (List ℕ)) → ((line : Line) × SpellsLine fields line) ⊎ ((fault : FaultReason) × IsFaultyLine fields fault)
some_reason fields = elim (some_keyword fields) [
  | inr none ↦ inr (WordFault, none)
  | inl found ↦ behind_or_not fields found.0 found.1.others found.1.first found.1.kind
]
