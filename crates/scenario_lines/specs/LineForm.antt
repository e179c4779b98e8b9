-- Profile: what a line of a scenario may say.
use Rattle.std.specs.Prelude.{◌≡◌, ◌≢◌, ℕ, ◌≤◌, true, List, length}
use Rattle.access_ops.specs.laws.OperationLaws.{IsLegalOp}
use Rattle.command_fields.specs.declared.choices.FlagName.TheVariants.{S0}
use Rattle.command_fields.specs.declared.choices.Sel.TheVariants.{All01}
use Rattle.air_events.specs.declared.Event.{Event}
use Rattle.air_events.specs.declared.Event.TheVariants.{Expire}
use Rattle.air_events.specs.declared.Choice.{Choice}
use Rattle.air_events.specs.declared.Choice.TheVariants.{Pick, Silent, Break, Raw}
use Rattle.air_events.specs.Streams.{HasStreamLength}
use Rattle.air_events.specs.TagNumbers.{most_tags}
use Rattle.tag_memory.specs.Image.{pc_fits}
use Rattle.pie_line.specs.Link.{LinkValue, IsLegalLink}
use Rattle.q_round.specs.SpecValue.{SpecValue, IsLegalSpec}
use Rattle.text_fields.specs.WordLists.{IsWordList}
use Rattle.scenario_lines.specs.TagForm.{IsTagForm}
use Rattle.scenario_lines.specs.declared.version.Version.{Version}
use Rattle.scenario_lines.specs.Names.{HasRuleText}
use Rattle.scenario_lines.specs.declared.line.Happening.{Happening}
use Rattle.scenario_lines.specs.declared.line.Happening.TheVariants as happenings
use Rattle.scenario_lines.specs.declared.line.Selection.{Selection}
use Rattle.scenario_lines.specs.declared.line.Line.{Line}
use Rattle.scenario_lines.specs.declared.line.Line.TheVariants as lines

-- the greatest length of time in a link line, in nanoseconds
abbrev pub most_nanoseconds : ℕ
most_nanoseconds = 999999

-- the greatest number of a level that a break names
abbrev pub most_level : ℕ
most_level = 999999

-- each length of a link is in the range of its field
pub record IsLinkForm (link : LinkValue) : Type 0 where
  pub tari : link.tari ≤ most_nanoseconds
  pub rtcal : link.rtcal ≤ most_nanoseconds
  pub trcal : link.trcal ≤ most_nanoseconds
  pub pw : link.pw ≤ most_nanoseconds

-- the number of a tag, and that of a reply
abbrev pub IsPlace : ℕ → Type 0
IsPlace place = place ≤ 4095

-- an event names a tag, and no expiry of S0, which has none
pub record IsEvent (event : Event) (tag : ℕ) : Type 0 where
  pub expires : event ≢ Expire S0
  pub place : IsPlace tag

-- the number of a reply, the place of a level or the levels of a stream are such as a choice may name
abbrev pub IsChoice : Choice → Type 0
IsChoice (Pick reply) = IsPlace reply
IsChoice Silent = Unit {0}
IsChoice (Break place) = place ≤ most_level
IsChoice (Raw levels) = HasStreamLength levels

-- what an air line says of its exchange is within its ranges
abbrev pub IsHappening : Happening → Type 0
IsHappening (happenings.Event event tag) = IsEvent event tag
IsHappening (happenings.Miss tag) = IsPlace tag
IsHappening (happenings.Choice choice) = IsChoice choice

-- the number of an exchange in an air line
abbrev pub IsExchange : ℕ → Type 0
IsExchange exchange = (1 ≤ exchange) × (exchange ≤ 1000000)

-- a round's parameters are in their ranges, and its Sel and its rule have a spelling in this version
pub record IsRound (version : Version) (spec : SpecValue) : Type 0 where
  pub legal : IsLegalSpec spec
  pub named : spec.sel ≢ All01
  pub spelled : HasRuleText version spec.rule

-- the numbers that the Select of a step carries are in their ranges
pub record IsSelection (selection : Selection) : Type 0 where
  pub action : selection.action ≤ 7
  pub pointer : selection.pointer ≤ 268435455
  pub mask : length selection.mask ≤ 255

-- the words of an EPC, which the five bits of a PC count (6.3.2.1.2.2)
abbrev pub IsEpc : List ℕ → Type 0
IsEpc words = IsWordList 0 31 words

-- for how many tags one line may stand that says copies
abbrev pub IsCopyCount : ℕ → Type 0
IsCopyCount count = (2 ≤ count) × (count ≤ most_tags)

-- each field of the line is of its form and in its range
abbrev pub HasForm : Line → Type 0
HasForm (lines.Version version) = Unit {0}
HasForm (lines.Link link) = IsLinkForm link
HasForm (lines.Default several) = Unit {0}
HasForm (lines.Tag tag) = IsTagForm tag
HasForm (lines.Copies count tag) = IsCopyCount count × IsTagForm tag
HasForm (lines.Air exchange happening) = IsExchange exchange × IsHappening happening
HasForm (lines.Select selection) = IsSelection selection
HasForm lines.Nak = Unit {0}
HasForm (lines.Event event tag) = IsEvent event tag
HasForm (lines.Round version spec) = IsRound version spec
HasForm (lines.Only words) = IsEpc words
HasForm (lines.Op op) = IsLegalOp op
HasForm lines.End = Unit {0}

-- the fields of the line agree with one another
abbrev pub IsCoherent : Line → Type 0
IsCoherent (lines.Link link) = IsLegalLink link
IsCoherent (lines.Tag tag) = pc_fits tag.image ≡ true
IsCoherent (lines.Copies count tag) = pc_fits tag.image ≡ true
IsCoherent line = Unit {0}

-- the line may stand in a scenario
pub record IsLine (line : Line) : Type 0 where
  pub form : HasForm line
  pub coherent : IsCoherent line
