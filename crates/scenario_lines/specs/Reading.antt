-- What the readers of the fields behind a line's first field answer where they refuse.
use Rattle.std.specs.Prelude.{◌≡◌, ◌≢◌, ◌≤◌, ℕ, List, [], ◌∷◌}
use Rattle.std.specs.Fmt.{decimal}
use Rattle.access_ops.specs.declared.Op.{Op}
use Rattle.access_ops.specs.laws.OperationLaws.{IsLegalOp}
use Rattle.air_events.specs.declared.Event.{Event}
use Rattle.pie_line.specs.Link.{LinkValue}
use Rattle.pie_line.specs.declared.link.LinkRefusal.{LinkRefusal}
use Rattle.pie_line.specs.declared.link.LinkRefusal.TheVariants as refusals
use Rattle.q_round.specs.SpecValue.{SpecValue}
use Rattle.scenario_lines.specs.declared.version.Version.{Version}
use Rattle.scenario_lines.specs.declared.reading.link.Parameters.{Parameters}
use Rattle.scenario_lines.specs.declared.reading.tag.Parts.{Parts}
use Rattle.checked_lines.specs.declared.fault.FaultReason.{FaultReason}
use Rattle.checked_lines.specs.declared.fault.FaultReason.TheVariants.{Word as WordFault, Shape, Number, Tari, RtCal, TrCal, Pw, Pc}
use Rattle.scenario_lines.specs.declared.tag.TagSpec.{TagSpec}
use Rattle.scenario_lines.specs.TagForm.{IsTagForm, tag_spec_of}
use Rattle.scenario_lines.specs.LineForm.{IsLinkForm, IsCopyCount, IsEvent, IsHappening, IsExchange, IsRound}
use Rattle.scenario_lines.specs.Spelling.{link_fields, tag_spec_fields, copies_fields, round_fields, event_fields, event_vocabulary, happening_fields, air_vocabulary, op_fields, op_vocabulary}
use Rattle.scenario_lines.specs.Names.{event_kind, event_word, event_field_count, op_kind, op_word, op_field_count, air_kind, air_word, air_field_count}
use Rattle.scenario_lines.specs.LineFaults.{HasKnownKind, HasShape, BreaksLink, BreaksPc, BreaksPcOfCopies}
use Rattle.text_fields.specs.NamedFields.{AreFilled, SpellBehind}
use Rattle.scenario_lines.specs.declared.keywords.Keyword.TheVariants as keywords
use Rattle.scenario_lines.specs.declared.keywords.EventKind.{EventKind}
use Rattle.scenario_lines.specs.declared.keywords.OpKind.{OpKind}
use Rattle.scenario_lines.specs.declared.keywords.AirKind.{AirKind}
use Rattle.scenario_lines.specs.declared.line.Happening.{Happening}

-- The fields have not the shape that is wanted; or they have it, and spell no value in its ranges.
abbrev pub Misreads : {V : Type 0} → (List (List ℕ) → Type 0) → (V → List (List ℕ)) → (V → Type 0) → List (List ℕ) → FaultReason → Type 0
Misreads HasShape fields_of_value IsInRange others Shape = ¬ HasShape others
Misreads HasShape fields_of_value IsInRange others Number = HasShape others × ((value : _) → IsInRange value → others ≢ fields_of_value value)
Misreads HasShape fields_of_value IsInRange others fault = ⊥

-- the link of these parameters
abbrev pub link_value : Parameters → LinkValue
link_value of = record {
  tari = of.tari;
  rtcal = of.rtcal;
  trcal = of.trcal;
  pw = of.pw;
  dr = of.dr;
  code = of.code;
  trext = of.trext;
}

-- the tag of these parts
abbrev pub tag_value : Parts → TagSpec
tag_value of = tag_spec_of of.kill of.access of.locks of.lists.epc of.lists.tid of.lists.user of.lists.words

-- the fault of a line whose link is refused so
abbrev pub link_fault : LinkRefusal → FaultReason
link_fault refusals.Tari = Tari
link_fault refusals.RtCal = RtCal
link_fault refusals.TrCal = TrCal
link_fault refusals.Pw = Pw

-- the first reason for which fields are no link
abbrev pub MisreadsLink : List (List ℕ) → FaultReason → Type 0
MisreadsLink others Tari = BreaksLink refusals.Tari others
MisreadsLink others RtCal = BreaksLink refusals.RtCal others
MisreadsLink others TrCal = BreaksLink refusals.TrCal others
MisreadsLink others Pw = BreaksLink refusals.Pw others
MisreadsLink others fault = Misreads (AreFilled 7) link_fields IsLinkForm others fault

-- the first reason for which fields are no tag
abbrev pub MisreadsTag : List (List ℕ) → FaultReason → Type 0
MisreadsTag others Pc = BreaksPc others
MisreadsTag others fault = Misreads (AreFilled 7) tag_spec_fields IsTagForm others fault

-- the first reason for which fields are no copies of a tag
abbrev pub MisreadsCopies : List (List ℕ) → FaultReason → Type 0
MisreadsCopies others Shape = ¬ AreFilled 8 others
MisreadsCopies others Number =
    AreFilled 8 others × ((count : ℕ) (tag : TagSpec) → IsCopyCount count → IsTagForm tag → others ≢ copies_fields count tag)
MisreadsCopies others Pc = BreaksPcOfCopies others
MisreadsCopies others fault = ⊥

-- the first reason for which fields are the parameters of no round
abbrev pub MisreadsRound : List (List ℕ) → FaultReason → Type 0
MisreadsRound others Shape = ¬ AreFilled 6 others
MisreadsRound others Number =
    AreFilled 6 others × ((version : Version) (spec : SpecValue) → IsRound version spec → others ≢ round_fields version spec)
MisreadsRound others fault = ⊥

-- the first reason for which fields are not one number up to most
abbrev pub MisreadsNumber : ℕ → List (List ℕ) → FaultReason → Type 0
MisreadsNumber most fields fault = Misreads (AreFilled 1) (λ (n : ℕ). decimal n ∷ []) (λ n. n ≤ most) fields fault

-- behind the kind, these fields spell an event of it and the number of its tag
abbrev pub IsEventText : EventKind → List (List ℕ) → Event → ℕ → Type 0
IsEventText kind fields event tag = SpellBehind event_vocabulary (λ event. IsEvent event.0 event.1) kind fields (event, tag)

-- the first reason for which fields behind the kind of an event spell none
abbrev pub MisreadsEvent : EventKind → List (List ℕ) → FaultReason → Type 0
MisreadsEvent kind fields Shape = ¬ AreFilled (event_field_count kind) fields
MisreadsEvent kind fields Number =
    AreFilled (event_field_count kind) fields × ((event : Event) (tag : ℕ) → ¬ IsEventText kind fields event tag)
MisreadsEvent kind fields fault = ⊥

-- behind the kind of an air line, these fields spell what it says
abbrev pub IsHappeningText : AirKind → List (List ℕ) → Happening → Type 0
IsHappeningText kind fields happening = SpellBehind air_vocabulary IsHappening kind fields happening

-- the first reason for which fields behind the kind of an air line say nothing
abbrev pub MisreadsHappening : AirKind → List (List ℕ) → FaultReason → Type 0
MisreadsHappening kind fields Shape = ¬ AreFilled (air_field_count kind) fields
MisreadsHappening kind fields Number =
    AreFilled (air_field_count kind) fields × ((happening : Happening) → ¬ IsHappeningText kind fields happening)
MisreadsHappening kind fields fault = ⊥

-- behind the kind, these fields spell an operation of it
abbrev pub IsOpText : OpKind → List (List ℕ) → Op → Type 0
IsOpText kind fields op = SpellBehind op_vocabulary IsLegalOp kind fields op

-- the first reason for which fields behind the kind of an operation spell none
abbrev pub MisreadsOp : OpKind → List (List ℕ) → FaultReason → Type 0
MisreadsOp kind fields Shape = ¬ AreFilled (op_field_count kind) fields
MisreadsOp kind fields Number = AreFilled (op_field_count kind) fields × ((op : Op) → ¬ IsOpText kind fields op)
MisreadsOp kind fields fault = ⊥

-- the first reason for which fields behind `op` say nothing
abbrev pub MisreadsOpLine : List (List ℕ) → FaultReason → Type 0
MisreadsOpLine others WordFault = ¬ HasKnownKind keywords.Op others
MisreadsOpLine others Shape = HasKnownKind keywords.Op others × (¬ HasShape keywords.Op others)
MisreadsOpLine others Number = HasShape keywords.Op others × ((op : Op) → IsLegalOp op → others ≢ op_word (op_kind op) ∷ op_fields op)
MisreadsOpLine others fault = ⊥

-- the first reason for which fields behind `event` say nothing
abbrev pub MisreadsEventLine : List (List ℕ) → FaultReason → Type 0
MisreadsEventLine others WordFault = ¬ HasKnownKind keywords.Event others
MisreadsEventLine others Shape = HasKnownKind keywords.Event others × (¬ HasShape keywords.Event others)
MisreadsEventLine others Number =
    HasShape keywords.Event others
    × ((event : Event) (tag : ℕ) → IsEvent event tag → others ≢ event_word (event_kind event) ∷ event_fields event tag)
MisreadsEventLine others fault = ⊥

-- the first reason for which fields behind `air` say nothing
abbrev pub MisreadsAirLine : List (List ℕ) → FaultReason → Type 0
MisreadsAirLine others WordFault = ¬ HasKnownKind keywords.Air others
MisreadsAirLine others Shape = HasKnownKind keywords.Air others × (¬ HasShape keywords.Air others)
MisreadsAirLine others Number =
    HasShape keywords.Air others
    × ((exchange : ℕ) (happening : Happening) → IsExchange exchange → IsHappening happening
    → others ≢ decimal exchange ∷ air_word (air_kind happening) ∷ happening_fields happening)
MisreadsAirLine others fault = ⊥
