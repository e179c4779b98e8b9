-- Profile: the one spelling of each line of a scenario, as the list of its fields.
use Rattle.std.specs.Prelude.{ℕ, Bool, List, [], ◌∷◌}
use Rattle.std.specs.Fmt.{decimal}
use Rattle.text_fields.specs.Lines.{line_with}
use Rattle.text_fields.specs.NamedFields.{Vocabulary}
use Rattle.text_fields.specs.Binary.{binary, binary_digit}
use Rattle.text_fields.specs.Hexadecimal.{hex_word, hex_words}
use Rattle.text_fields.specs.CodeNames.{code_word}
use Rattle.wire_text.specs.CommandText.{bank_word, flag_word, mask_bank_word, payload_digits, side_word}
use Rattle.wire_text.specs.PasswordsAndLocks.{locks_text, password_text}
use Rattle.access_ops.specs.declared.Op.{Op}
use Rattle.access_ops.specs.declared.Op.TheVariants as ops
use Rattle.air_events.specs.declared.Event.{Event}
use Rattle.air_events.specs.declared.Event.TheVariants as events
use Rattle.air_events.specs.declared.Choice.TheVariants as choices
use Rattle.pie_line.specs.Link.{LinkValue}
use Rattle.q_round.specs.SpecValue.{SpecValue}
use Rattle.scenario_lines.specs.declared.tag.TagSpec.{TagSpec}
use Rattle.scenario_lines.specs.declared.version.Version.{Version}
use Rattle.scenario_lines.specs.declared.keywords.AirKind.{AirKind}
use Rattle.scenario_lines.specs.declared.keywords.EventKind.{EventKind}
use Rattle.scenario_lines.specs.declared.keywords.OpKind.{OpKind}
use Rattle.scenario_lines.specs.declared.keywords.Keyword.{Keyword}
use Rattle.scenario_lines.specs.declared.keywords.Keyword.TheVariants as keywords
use Rattle.scenario_lines.specs.declared.line.Happening.{Happening}
use Rattle.scenario_lines.specs.declared.line.Happening.TheVariants as happenings
use Rattle.scenario_lines.specs.declared.line.Selection.{Selection}
use Rattle.scenario_lines.specs.declared.line.Line.{Line}
use Rattle.scenario_lines.specs.declared.line.Line.TheVariants as lines
use Rattle.scenario_lines.specs.Names.{keyword_text, several_text, version_digit, event_word, event_kind, event_field_count, air_word, air_kind, air_field_count, op_word, op_kind, op_field_count, rule_text, sel_text}

-- a flag, as one binary digit
abbrev pub flag_text : Bool → List ℕ
flag_text bit = binary_digit bit ∷ []

-- the fields behind `link`
abbrev pub link_fields : LinkValue → List (List ℕ)
link_fields link =
    decimal link.tari ∷ decimal link.rtcal ∷ decimal link.trcal ∷ decimal link.pw ∷ flag_text link.dr ∷ code_word link.code
    ∷ flag_text link.trext ∷ []

-- the fields behind `tag`
abbrev pub tag_spec_fields : TagSpec → List (List ℕ)
tag_spec_fields tag =
    password_text tag.image.kill ∷ password_text tag.image.access ∷ locks_text tag.locks ∷ hex_words tag.image.epc
    ∷ hex_words tag.image.tid ∷ hex_words tag.image.user ∷ hex_words tag.words ∷ []

-- how many tags, and the tag of which they are copies
abbrev pub copies_fields : ℕ → TagSpec → List (List ℕ)
copies_fields count tag = decimal count ∷ tag_spec_fields tag

-- the fields behind the kind of an event
abbrev pub event_fields : Event → ℕ → List (List ℕ)
event_fields (events.Expire flag) tag = flag_word flag ∷ decimal tag ∷ []
event_fields event tag = decimal tag ∷ []

-- the fields behind the kind of an air line
abbrev pub happening_fields : Happening → List (List ℕ)
happening_fields (happenings.Event event tag) = event_fields event tag
happening_fields (happenings.Miss tag) = decimal tag ∷ []
happening_fields (happenings.Choice (choices.Pick reply)) = decimal reply ∷ []
happening_fields (happenings.Choice choices.Silent) = []
happening_fields (happenings.Choice (choices.Break place)) = decimal place ∷ []
happening_fields (happenings.Choice (choices.Raw levels)) = binary levels ∷ []

-- the fields behind `select`
abbrev pub select_fields : Selection → List (List ℕ)
select_fields selection =
    flag_word selection.target ∷ decimal selection.action ∷ mask_bank_word selection.bank ∷ decimal selection.pointer
    ∷ binary selection.mask ∷ []

-- the fields behind `round`, as a version spells them
abbrev pub round_fields : Version → SpecValue → List (List ℕ)
round_fields version spec =
    sel_text spec.sel ∷ decimal spec.session ∷ side_word spec.target ∷ decimal spec.q ∷ rule_text version spec.rule ∷ decimal spec.limit ∷ []

-- the fields behind the kind of an operation: bank, place and words as the command has them, and a password as its two words
abbrev pub op_fields : Op → List (List ℕ)
op_fields (ops.Read bank pointer count) = bank_word bank ∷ decimal pointer ∷ decimal count ∷ []
op_fields (ops.Write bank pointer word) = bank_word bank ∷ decimal pointer ∷ hex_word word ∷ []
op_fields (ops.BlockWrite bank pointer words) = bank_word bank ∷ decimal pointer ∷ hex_words words ∷ []
op_fields (ops.BlockErase bank pointer count) = bank_word bank ∷ decimal pointer ∷ decimal count ∷ []
op_fields (ops.Lock payload) = payload_digits payload ∷ []
op_fields (ops.Access password) = password_text password ∷ []
op_fields (ops.Kill password) = password_text password ∷ []

-- events with their tags, what air lines say, and operations, as what may be spelled
abbrev pub event_vocabulary : Vocabulary EventKind (Event × ℕ)
event_vocabulary = record { name = event_word; count = event_field_count; kind = λ event. event_kind event.0; others = λ event. event_fields event.0 event.1 }

abbrev pub air_vocabulary : Vocabulary AirKind Happening
air_vocabulary = record { name = air_word; count = air_field_count; kind = air_kind; others = happening_fields }

abbrev pub op_vocabulary : Vocabulary OpKind Op
op_vocabulary = record { name = op_word; count = op_field_count; kind = op_kind; others = op_fields }

-- the keyword of a scenario's line, its first field
abbrev pub keyword_of : Line → Keyword
keyword_of (lines.Version version) = keywords.Version
keyword_of (lines.Link link) = keywords.Link
keyword_of (lines.Default several) = keywords.Default
keyword_of (lines.Tag tag) = keywords.Tag
keyword_of (lines.Copies count tag) = keywords.Copies
keyword_of (lines.Air exchange happening) = keywords.Air
keyword_of (lines.Select selection) = keywords.Select
keyword_of lines.Nak = keywords.Nak
keyword_of (lines.Event event tag) = keywords.Event
keyword_of (lines.Round version spec) = keywords.Round
keyword_of (lines.Only epc) = keywords.Only
keyword_of (lines.Op op) = keywords.Op
keyword_of lines.End = keywords.End

-- the fields of a scenario's line behind its keyword
abbrev pub other_fields : Line → List (List ℕ)
other_fields (lines.Version version) = version_digit version ∷ []
other_fields (lines.Link link) = link_fields link
other_fields (lines.Default several) = several_text several ∷ []
other_fields (lines.Tag tag) = tag_spec_fields tag
other_fields (lines.Copies count tag) = copies_fields count tag
other_fields (lines.Air exchange happening) = decimal exchange ∷ air_word (air_kind happening) ∷ happening_fields happening
other_fields (lines.Select selection) = select_fields selection
other_fields lines.Nak = []
other_fields (lines.Event event tag) = event_word (event_kind event) ∷ event_fields event tag
other_fields (lines.Round version spec) = round_fields version spec
other_fields (lines.Only epc) = hex_words epc ∷ []
other_fields (lines.Op op) = op_word (op_kind op) ∷ op_fields op
other_fields lines.End = []

-- all fields of a line
abbrev pub line_fields : Line → List (List ℕ)
line_fields line = keyword_text (keyword_of line) ∷ other_fields line

-- a line, without its line feed
abbrev pub line_text : Line → List ℕ
line_text line = line_with (line_fields line)
