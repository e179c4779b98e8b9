-- Profile: where a scenario stands after some of its lines, and which line may follow.
use Rattle.std.specs.Prelude.{◌≡◌, ◌≢◌, ℕ, ◌+◌, ◌<◌, ◌≤◌, List, [], ◌∷◌, length, None}
use Rattle.air_events.specs.declared.Several.{Several}
use Rattle.air_events.specs.declared.Several.TheVariants.{Break}
use Rattle.pie_line.specs.Link.{LinkValue}
use Rattle.scenario_lines.specs.declared.version.Version.{Version}
use Rattle.scenario_lines.specs.declared.version.Version.TheVariants.{One, Two}
use Rattle.scenario_lines.specs.declared.keywords.Keyword.{Keyword}
use Rattle.scenario_lines.specs.declared.keywords.Keyword.TheVariants as keywords
use Rattle.scenario_lines.specs.declared.line.Happening.TheVariants as happenings
use Rattle.scenario_lines.specs.declared.line.Line.{Line}
use Rattle.scenario_lines.specs.declared.line.Line.TheVariants as lines
use Rattle.scenario_lines.specs.Spelling.{keyword_of}
use Rattle.scenario_lines.specs.LineForm.{IsLine}
use Rattle.scenario_lines.specs.TagForm.{epc_length}
use Rattle.scenario.specs.declared.values.Scenario.{Scenario}
use Rattle.scenario.specs.Limits.{most_tags_of, most_air_lines, most_ops, most_steps}
use Rattle.scenario.specs.AirLinesSoFar.{ChoosesOnce, KeepsOrder}
use Rattle.scenario.specs.StepLinesSoFar.{IsBareRound, steps_of}
use Rattle.scenario.specs.Draft.{DraftValue, HeadValue, draft_after, new_draft, scenario_of, tag_count}

-- where a scenario stands after some of its lines
pub data ScenarioStanding : Type 0 where
  -- before the first line of the scenario
  start : ScenarioStanding
  -- behind the version line of the scenario
  begun : Version → ScenarioStanding
  -- behind the link of version 2
  linked : LinkValue → ScenarioStanding
  -- behind the head, or a line after it
  within : DraftValue → ScenarioStanding
  -- behind the `end` line of the scenario
  ended : DraftValue → ScenarioStanding

-- the head of a text of version 1 and of one of version 2
abbrev pub first_head : LinkValue → HeadValue
first_head link = record { version = One; link = link; several = Break }

abbrev pub second_head : LinkValue → Several → HeadValue
second_head link several = record { version = Two; link = link; several = several }

-- how many lines a head has: the version, the link, and in version 2 the default
abbrev pub head_size : Version → ℕ
head_size One = 2
head_size Two = 3

-- a line whose keyword is this may follow
abbrev pub MayStand : ScenarioStanding → Keyword → Type 0
MayStand start keywords.Version = Unit {0}
MayStand (begun version) keywords.Link = Unit {0}
MayStand (linked link) keywords.Default = Unit {0}
MayStand (within draft) keywords.Tag = (draft.air.count ≡ 0) × (steps_of draft.steps ≡ [])
MayStand (within draft) keywords.Copies = (draft.head.version ≡ Two) × (draft.air.count ≡ 0) × (steps_of draft.steps ≡ [])
MayStand (within draft) keywords.Air = steps_of draft.steps ≡ []
MayStand (within draft) keywords.Select = Unit {0}
MayStand (within draft) keywords.Nak = Unit {0}
MayStand (within draft) keywords.Event = Unit {0}
MayStand (within draft) keywords.Round = Unit {0}
MayStand (within draft) keywords.Only = IsBareRound draft.steps
MayStand (within draft) keywords.Op = draft.steps.round ≢ None
MayStand (within draft) keywords.End = Unit {0}
MayStand standing keyword = ⊥

-- such a line is not one too many
abbrev pub HasRoomForLine : ScenarioStanding → Keyword → Type 0
HasRoomForLine (within draft) keywords.Tag = tag_count draft < most_tags_of draft.head.version
HasRoomForLine (within draft) keywords.Copies = tag_count draft < most_tags_of draft.head.version
HasRoomForLine (within draft) keywords.Air = draft.air.count < most_air_lines
HasRoomForLine (within draft) keywords.Select = length (steps_of draft.steps) < most_steps
HasRoomForLine (within draft) keywords.Nak = length (steps_of draft.steps) < most_steps
HasRoomForLine (within draft) keywords.Event = length (steps_of draft.steps) < most_steps
HasRoomForLine (within draft) keywords.Round = length (steps_of draft.steps) < most_steps
HasRoomForLine (within draft) keywords.Op = length draft.steps.operations.ops < most_ops
HasRoomForLine standing keyword = Unit {0}

-- the tag that the line names is one of so many
abbrev pub NamesTag : ℕ → Line → Type 0
NamesTag tags (lines.Air exchange (happenings.Event event tag)) = tag < tags
NamesTag tags (lines.Air exchange (happenings.Miss tag)) = tag < tags
NamesTag tags (lines.Event event tag) = tag < tags
NamesTag tags line = Unit {0}

-- a round is spelled as the version of the text spells it
abbrev pub IsOfVersion : Version → Line → Type 0
IsOfVersion version (lines.Round other spec) = other ≡ version
IsOfVersion version line = Unit {0}

-- copies, which stand in version 2 alone, have an EPC to differ in, and with the tags before them they are not too many
abbrev pub MayCopy : ℕ → Line → Type 0
MayCopy tags (lines.Copies count tag) = (1 ≤ epc_length tag) × (tags + count ≤ most_tags_of Two)
MayCopy tags line = Unit {0}

-- what the line says agrees with the lines before it
pub record Agrees (draft : DraftValue) (line : Line) : Type 0 where
  pub version : IsOfVersion draft.head.version line
  pub copies : MayCopy (tag_count draft) line
  pub names : NamesTag (tag_count draft) line
  pub order : KeepsOrder draft.air line
  pub once : ChoosesOnce draft.air line

-- what the line says agrees with where the scenario stands
abbrev pub AgreesWith : ScenarioStanding → Line → Type 0
AgreesWith (within draft) line = Agrees draft line
AgreesWith standing line = Unit {0}

-- the line may follow
pub record MayStandNext (standing : ScenarioStanding) (line : Line) : Type 0 where
  pub is : IsLine line
  pub stands : MayStand standing (keyword_of line)
  pub room : HasRoomForLine standing (keyword_of line)
  pub agrees : AgreesWith standing line

-- where the scenario stands after a line that may follow
abbrev pub standing_after : ScenarioStanding → Line → ScenarioStanding
standing_after start (lines.Version version) = begun version
standing_after (begun One) (lines.Link link) = within (new_draft (first_head link))
standing_after (begun Two) (lines.Link link) = linked link
standing_after (linked link) (lines.Default several) = within (new_draft (second_head link several))
standing_after (within draft) lines.End = ended draft
standing_after (within draft) line = within (draft_after draft line)
standing_after standing line = standing

-- from where the scenario stands here each line may follow the one before it, and they lead there
abbrev pub LinesLead : ScenarioStanding → List Line → ScenarioStanding → Type 0
LinesLead from [] to = from ≡ to
LinesLead from (line ∷ lines) to = MayStandNext from line × LinesLead (standing_after from line) lines to

-- the lines follow one another from the start to the end, and say the scenario
pub record IsSaid (scenario : Scenario) (said : List Line) : Type 0 where
  pub draft : DraftValue
  pub leads : LinesLead start said (ended draft)
  pub says : scenario_of draft ≡ scenario
