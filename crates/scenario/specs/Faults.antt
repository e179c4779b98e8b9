-- Profile: the text of a scenario by the rules of a text of lines, and the first faulty line of one that is none.
use Rattle.std.specs.Prelude.{◌≡◌, ◌≢◌, ◌⊎◌, ℕ, List}
use Rattle.text_fields.specs.Lines.{fields_of}
use Rattle.checked_lines.specs.TextRules.{TextRules, IsFirstFault, IsUnread}
use Rattle.scenario_lines.specs.declared.keywords.Keyword.{Keyword}
use Rattle.scenario_lines.specs.declared.line.Line.{Line}
use Rattle.scenario_lines.specs.declared.line.Line.TheVariants as lines
use Rattle.scenario_lines.specs.declared.version.Version.{Version as TextVersion}
use Rattle.scenario_lines.specs.Spelling.{line_text}
use Rattle.scenario_lines.specs.LineFaults.{BeginsWithKeyword, IsFaultyLine}
use Rattle.scenario_lines.specs.SpelledLines.{SpellsLine}
use Rattle.checked_lines.specs.declared.fault.FaultReason.{FaultReason}
use Rattle.checked_lines.specs.declared.fault.FaultReason.TheVariants.{Extra, End, Version, Word, Order, Limit, Number, Copies, Tag, Twice}
use Rattle.checked_lines.specs.declared.fault.Unread.{Unread}
use Rattle.scenario.specs.AirLinesSoFar.{ChoosesOnce, KeepsOrder}
use Rattle.scenario.specs.Draft.{DraftValue, tag_count}
use Rattle.scenario.specs.Standing.{ScenarioStanding, start, within, ended, HasRoomForLine, IsOfVersion, MayCopy, MayStand, MayStandNext, NamesTag, standing_after}

-- the fault is the reason of the first condition that isn't met: of this one, or else of one of the others
abbrev pub IsFirstUnmet : Type 0 → FaultReason → (FaultReason → Type 0) → FaultReason → Type 0
IsFirstUnmet first reason others fault = ((¬ first) × (fault ≡ reason)) ⊎ (first × others fault)

-- the first reason for which a line that may stand here doesn't agree with the lines before it
abbrev pub DisagreesBy : DraftValue → Line → FaultReason → Type 0
DisagreesBy draft line =
    IsFirstUnmet (IsOfVersion draft.head.version line) Number
    (IsFirstUnmet (MayCopy (tag_count draft) line) Copies
    (IsFirstUnmet (NamesTag (tag_count draft) line) Tag
    (IsFirstUnmet (KeepsOrder draft.air line) Order
    (IsFirstUnmet (ChoosesOnce draft.air line) Twice (λ fault. ⊥)))))

-- the first reason for which a line that may stand where the scenario stands doesn't agree with the lines before it
abbrev pub DisagreesAt : ScenarioStanding → Line → FaultReason → Type 0
DisagreesAt (within draft) line fault = DisagreesBy draft line fault
DisagreesAt standing line fault = ⊥

-- the line begins with a keyword that may stand here
pub record MayBegin (standing : ScenarioStanding) (fields : List (List ℕ)) : Type 0 where
  pub keyword : Keyword
  pub begins : BeginsWithKeyword fields keyword
  pub stands : MayStand standing keyword

-- the line begins with a keyword of which there is room for a line here
pub record HasRoomFor (standing : ScenarioStanding) (fields : List (List ℕ)) : Type 0 where
  pub keyword : Keyword
  pub begins : BeginsWithKeyword fields keyword
  pub room : HasRoomForLine standing keyword

-- the line says something, which doesn't agree with the lines before it
pub record Disagrees (standing : ScenarioStanding) (fields : List (List ℕ)) (fault : FaultReason) : Type 0 where
  pub line : Line
  pub spells : SpellsLine fields line
  pub disagrees : DisagreesAt standing line fault

-- The first reason for which a line with its line feed is faulty, where another than the first is needed. It may be one for which the line
-- says nothing, whatever the lines before it say.
abbrev pub IsFaultyAt : ScenarioStanding → List (List ℕ) → FaultReason → Type 0
IsFaultyAt standing fields =
    IsFirstUnmet (MayBegin standing fields) Word
    (IsFirstUnmet (HasRoomFor standing fields) Limit (λ fault. IsFaultyLine fields fault ⊎ Disagrees standing fields fault))

-- the first reason for which a line of a scenario that has its line feed is faulty, by where it stands
abbrev pub IsFaultyInScenario : ScenarioStanding → List ℕ → FaultReason → Type 0
-- the first line is the version
IsFaultyInScenario start line fault = (fault ≡ Version) × ((version : TextVersion) → line ≢ line_text (lines.Version version))
-- behind the end of a scenario nothing may stand
IsFaultyInScenario (ended draft) line fault = fault ≡ Extra
IsFaultyInScenario standing line fault = IsFaultyAt standing (fields_of line) fault

-- the line spells one that may follow, and leads there
pub record LeadsBy (from : ScenarioStanding) (line : List ℕ) (to : ScenarioStanding) : Type 0 where
  pub said : Line
  pub spells : SpellsLine (fields_of line) said
  pub follows : MayStandNext from said
  pub leads : standing_after from said ≡ to

-- a text may end behind its `end` line
abbrev pub ScenarioMayEnd : ScenarioStanding → Type 0
ScenarioMayEnd (ended draft) = Unit {0}
ScenarioMayEnd standing = ⊥

-- why a last line without a line feed is faulty: behind the end nothing may stand, and before it a line is needed
abbrev pub unended_scenario_reason : ScenarioStanding → FaultReason
unended_scenario_reason (ended draft) = Extra
unended_scenario_reason standing = End

-- the rules of the text of a scenario
abbrev pub scenario_rules : TextRules ScenarioStanding FaultReason
scenario_rules = record { start = start; leads = LeadsBy; is_faulty = IsFaultyInScenario; may_end = ScenarioMayEnd; unended = unended_scenario_reason }

-- the first faulty line of the bytes by the rules of a scenario, counted from 1, with its first reason
abbrev pub IsFirstScenarioFault : List ℕ → ℕ → FaultReason → Type 0
IsFirstScenarioFault bytes number fault = IsFirstFault scenario_rules bytes number fault

-- why no scenario was read from the bytes
abbrev pub IsRefused : List ℕ → Unread → Type 0
IsRefused bytes unread = IsUnread scenario_rules bytes unread
