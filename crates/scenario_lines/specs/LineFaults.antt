-- Profile: why the fields of a line say nothing, whatever the lines before it say. The first reason that applies counts.
use Rattle.std.specs.Prelude.{◌≡◌, ◌≢◌, ℕ, false, List, [], ◌∷◌}
use Rattle.text_fields.specs.NamedFields.{AreFilled}
use Rattle.tag_memory.specs.Image.{pc_fits}
use Rattle.pie_line.specs.Link.{LinkValue}
use Rattle.pie_line.specs.LinkRefusal.{IsFirstBroken}
use Rattle.pie_line.specs.declared.link.LinkRefusal.{LinkRefusal}
use Rattle.pie_line.specs.declared.link.LinkRefusal.TheVariants as refusals
use Rattle.scenario_lines.specs.declared.tag.TagSpec.{TagSpec}
use Rattle.scenario_lines.specs.declared.keywords.Keyword.{Keyword}
use Rattle.scenario_lines.specs.declared.keywords.Keyword.TheVariants as keywords
use Rattle.scenario_lines.specs.declared.keywords.EventKind.{EventKind}
use Rattle.scenario_lines.specs.declared.keywords.OpKind.{OpKind}
use Rattle.scenario_lines.specs.declared.keywords.AirKind.{AirKind}
use Rattle.scenario_lines.specs.declared.line.Line.{Line}
use Rattle.checked_lines.specs.declared.fault.FaultReason.{FaultReason}
use Rattle.checked_lines.specs.declared.fault.FaultReason.TheVariants.{Word as WordFault, Shape, Number, Tari, RtCal, TrCal, Pw, Pc}
use Rattle.scenario_lines.specs.Names.{keyword_text, event_word, event_field_count, op_word, op_field_count, air_word, air_field_count}
use Rattle.scenario_lines.specs.TagForm.{IsTagForm}
use Rattle.scenario_lines.specs.LineForm.{IsLinkForm, IsCopyCount, HasForm}
use Rattle.scenario_lines.specs.Spelling.{link_fields, tag_spec_fields, copies_fields, keyword_of, other_fields}

-- where a kind stands behind the first field, it is one of its kinds
abbrev pub HasKnownKind : Keyword → List (List ℕ) → Type 0
HasKnownKind keywords.Air (exchange ∷ kind ∷ others) = (known : AirKind) × (kind ≡ air_word known)
HasKnownKind keywords.Event (kind ∷ others) = (known : EventKind) × (kind ≡ event_word known)
HasKnownKind keywords.Op (kind ∷ others) = (known : OpKind) × (kind ≡ op_word known)
HasKnownKind keyword others = Unit {0}

-- the line begins with this keyword, and with a kind of it where a kind is there
pub record BeginsWithKeyword (fields : List (List ℕ)) (keyword : Keyword) : Type 0 where
  pub others : List (List ℕ)
  pub first : fields ≡ keyword_text keyword ∷ others
  pub kind : HasKnownKind keyword others

-- the fields of a scenario's line behind its keyword: their number is right, none is empty, and a kind that has to be there is known
abbrev pub HasShape : Keyword → List (List ℕ) → Type 0
HasShape keywords.Version others = AreFilled 1 others
HasShape keywords.Link others = AreFilled 7 others
HasShape keywords.Default others = AreFilled 1 others
HasShape keywords.Tag others = AreFilled 7 others
HasShape keywords.Copies others = AreFilled 8 others
HasShape keywords.Air (exchange ∷ kind ∷ others) =
    (exchange ≢ []) × (known : AirKind) × (kind ≡ air_word known) × AreFilled (air_field_count known) others
HasShape keywords.Air others = ⊥
HasShape keywords.Select others = AreFilled 5 others
HasShape keywords.Nak others = AreFilled 0 others
HasShape keywords.Event (kind ∷ others) = (known : EventKind) × (kind ≡ event_word known) × AreFilled (event_field_count known) others
HasShape keywords.Event others = ⊥
HasShape keywords.Round others = AreFilled 6 others
HasShape keywords.Only others = AreFilled 1 others
HasShape keywords.Op (kind ∷ others) = (known : OpKind) × (kind ≡ op_word known) × AreFilled (op_field_count known) others
HasShape keywords.Op others = ⊥
HasShape keywords.End others = AreFilled 0 others

-- the fields spell a link whose numbers are in the ranges of their fields, and the link is refused so
pub record BreaksLink (refusal : LinkRefusal) (others : List (List ℕ)) : Type 0 where
  pub link : LinkValue
  pub spelling : others ≡ link_fields link
  pub form : IsLinkForm link
  pub broken : IsFirstBroken refusal link.tari link.rtcal link.trcal link.pw

-- the fields spell a tag whose fields are in their ranges, and the EPC that its PC announces passes the bank
pub record BreaksPc (others : List (List ℕ)) : Type 0 where
  pub tag : TagSpec
  pub spelling : others ≡ tag_spec_fields tag
  pub form : IsTagForm tag
  pub broken : pc_fits tag.image ≡ false

-- the fields spell copies of such a tag
pub record BreaksPcOfCopies (others : List (List ℕ)) : Type 0 where
  pub count : ℕ
  pub tag : TagSpec
  pub spelling : others ≡ copies_fields count tag
  pub number : IsCopyCount count
  pub form : IsTagForm tag
  pub broken : pc_fits tag.image ≡ false

-- the first reason for which the fields behind a first field say nothing
abbrev pub IsFaultyBehind : Keyword → List (List ℕ) → FaultReason → Type 0
-- a kind is there, and is none of the kinds
IsFaultyBehind keyword others WordFault = ¬ HasKnownKind keyword others
-- the number of fields is wrong, or one is empty
IsFaultyBehind keyword others Shape = HasKnownKind keyword others × (¬ HasShape keyword others)
-- the fields are there, and one of them isn't of its form or range: they spell no line
IsFaultyBehind keyword others Number =
    HasShape keyword others × ((line : Line) → HasForm line → keyword_of line ≡ keyword → others ≢ other_fields line)
-- the fields spell a line, and don't agree with one another
IsFaultyBehind keywords.Link others Tari = BreaksLink refusals.Tari others
IsFaultyBehind keywords.Link others RtCal = BreaksLink refusals.RtCal others
IsFaultyBehind keywords.Link others TrCal = BreaksLink refusals.TrCal others
IsFaultyBehind keywords.Link others Pw = BreaksLink refusals.Pw others
IsFaultyBehind keywords.Tag others Pc = BreaksPc others
IsFaultyBehind keywords.Copies others Pc = BreaksPcOfCopies others
IsFaultyBehind keyword others fault = ⊥

-- a line with this keyword is spelled wrongly
pub record Misspells (fields : List (List ℕ)) (fault : FaultReason) : Type 0 where
  pub keyword : Keyword
  pub others : List (List ℕ)
  pub first : fields ≡ keyword_text keyword ∷ others
  pub faulty : IsFaultyBehind keyword others fault

-- the first reason for which the fields of a line say nothing, whatever the lines before it say
abbrev pub IsFaultyLine : List (List ℕ) → FaultReason → Type 0
-- no keyword of a scenario stands at their head, with a kind that is known where a kind is there
IsFaultyLine fields WordFault = (keyword : Keyword) → ¬ BeginsWithKeyword fields keyword
IsFaultyLine fields fault = Misspells fields fault
