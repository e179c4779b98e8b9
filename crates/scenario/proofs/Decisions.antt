-- What the lines before a line leave open holds for it, or it doesn't.
use Rattle.std.proofs.Common.{◌≡◌, ◌≢◌, ◌+◌, ◌<◌, ℕ, suc, List, [], ◌∷◌, length, Option, Some, None, refl, inl, inr}
use Rattle.air_events.specs.declared.Entry.{Entry}
use Rattle.scenario_lines.proofs.Decisions.{Decided, both, le_decided, number_decided}
use Rattle.scenario_lines.specs.TagForm.{epc_length}
use Rattle.scenario_lines.specs.declared.version.Version.{Version}
use Rattle.scenario_lines.specs.declared.version.Version.TheVariants.{One, Two}
use Rattle.scenario_lines.specs.declared.keywords.Keyword.{Keyword}
use Rattle.scenario_lines.specs.declared.keywords.Keyword.TheVariants as keywords
use Rattle.scenario_lines.specs.declared.line.Happening.{Happening}
use Rattle.scenario_lines.specs.declared.line.Happening.TheVariants as happenings
use Rattle.scenario_lines.specs.declared.line.Line.{Line}
use Rattle.scenario_lines.specs.declared.line.Line.TheVariants as lines
use Rattle.scenario.specs.Limits.{most_air_lines, most_ops, most_steps, most_tags_of}
use Rattle.scenario.specs.AirLinesSoFar.{ChoosesOnce, KeepsOrder, MayFollow}
use Rattle.scenario.specs.Draft.{DraftValue, tag_count}
use Rattle.scenario.specs.Standing.{HasRoomForLine, IsOfVersion, MayCopy, MayStand, NamesTag, ScenarioStanding, begun, linked, start, within}
use Rattle.scenario.specs.StepLinesSoFar.{IsBareRound, steps_of}

-- what has to hold in one case alone
in_case : {A B : Type 0} → Decided A → Decided B → Decided (A → B)
in_case (inr other) holds = inl (λ here. absurd (other here))
in_case (inl here) (inl holds) = inl (λ _. holds)
in_case (inl here) (inr never) = inr (λ always. never (always here))

lt_decided : (m n : ℕ) → Decided (m < n)
lt_decided m n = le_decided (suc m) n

version_decided : (one other : Version) → Decided (one ≡ other)
version_decided One One = inl refl
version_decided One Two = inr (λ same. cc)
version_decided Two One = inr (λ same. cc)
version_decided Two Two = inl refl

empty_decided : {A : Type 0} → (list : List A) → Decided (list ≡ [])
empty_decided [] = inl refl
empty_decided (item ∷ list) = inr (λ same. cc)

none_decided : {A : Type 0} → (option : Option A) → Decided (option ≡ None)
none_decided None = inl refl
none_decided (Some value) = inr (λ same. cc)

some_decided : {A : Type 0} → (option : Option A) → Decided (option ≢ None)
some_decided None = inr (λ some. some refl)
some_decided (Some value) = inl (λ same. cc)

bare_decided : (draft : DraftValue) → Decided (IsBareRound draft.steps)
bare_decided draft = elim (both (some_decided draft.steps.round) (both (none_decided draft.steps.operations.only) (empty_decided draft.steps.operations.ops))) [
  | inl bare ↦ inl (record { round = bare.0; only = bare.1.0; ops = bare.1.1 })
  | inr never ↦ inr (λ bare. never (bare.round, (bare.only, bare.ops)))
]

-- copies may stand here, or may not
copies_stand_decided : (draft : DraftValue) → Decided ((draft.head.version ≡ Two) × (draft.air.count ≡ 0) × (steps_of draft.steps ≡ []))
copies_stand_decided draft =
    elim (both (version_decided draft.head.version Two) (both (number_decided draft.air.count 0) (empty_decided (steps_of draft.steps)))) [
      | inl stands ↦ inl (stands.0, stands.1.0, stands.1.1)
      | inr never ↦ inr (λ stands. never (stands.0, (stands.1, stands.2)))
    ]

-- a line with this keyword may follow, or may not
pub may_stand_decided : (standing : ScenarioStanding) (keyword : Keyword) → Decided (MayStand standing keyword)
may_stand_decided start keywords.Version = inl tt
may_stand_decided (begun version) keywords.Link = inl tt
may_stand_decided (linked link) keywords.Default = inl tt
may_stand_decided (within draft) keywords.Tag = both (number_decided draft.air.count 0) (empty_decided (steps_of draft.steps))
may_stand_decided (within draft) keywords.Copies = copies_stand_decided draft
may_stand_decided (within draft) keywords.Air = empty_decided (steps_of draft.steps)
may_stand_decided (within draft) keywords.Select = inl tt
may_stand_decided (within draft) keywords.Nak = inl tt
may_stand_decided (within draft) keywords.Event = inl tt
may_stand_decided (within draft) keywords.Round = inl tt
may_stand_decided (within draft) keywords.Only = bare_decided draft
may_stand_decided (within draft) keywords.Op = some_decided draft.steps.round
may_stand_decided (within draft) keywords.End = inl tt
may_stand_decided standing keyword = inr (λ stands. stands)

-- ... and there is room for it, or there is none
pub has_room_decided : (standing : ScenarioStanding) (keyword : Keyword) → Decided (HasRoomForLine standing keyword)
has_room_decided (within draft) keywords.Tag = lt_decided (tag_count draft) (most_tags_of draft.head.version)
has_room_decided (within draft) keywords.Copies = lt_decided (tag_count draft) (most_tags_of draft.head.version)
has_room_decided (within draft) keywords.Air = lt_decided draft.air.count most_air_lines
has_room_decided (within draft) keywords.Select = lt_decided (length (steps_of draft.steps)) most_steps
has_room_decided (within draft) keywords.Nak = lt_decided (length (steps_of draft.steps)) most_steps
has_room_decided (within draft) keywords.Event = lt_decided (length (steps_of draft.steps)) most_steps
has_room_decided (within draft) keywords.Round = lt_decided (length (steps_of draft.steps)) most_steps
has_room_decided (within draft) keywords.Op = lt_decided (length draft.steps.operations.ops) most_ops
has_room_decided standing keyword = inl tt

-- a round is spelled as the version spells it, or isn't
pub is_of_version_decided : (version : Version) (line : Line) → Decided (IsOfVersion version line)
is_of_version_decided version (lines.Round other spec) = version_decided other version
is_of_version_decided version line = inl tt

-- copies have an EPC to differ in and are not too many, or not so
pub may_copy_decided : (tags : ℕ) (line : Line) → Decided (MayCopy tags line)
may_copy_decided tags (lines.Copies count tag) = both (le_decided 1 (epc_length tag)) (le_decided (tags + count) (most_tags_of Two))
may_copy_decided tags line = inl tt

-- the tag that a line names is there, or isn't
pub names_tag_decided : (tags : ℕ) (line : Line) → Decided (NamesTag tags line)
names_tag_decided tags (lines.Air exchange (happenings.Event event tag)) = lt_decided tag tags
names_tag_decided tags (lines.Air exchange (happenings.Miss tag)) = lt_decided tag tags
names_tag_decided tags (lines.Event event tag) = lt_decided tag tags
names_tag_decided tags line = inl tt

may_follow_decided : (entry : Entry) (happening : Happening) → Decided (MayFollow entry happening)
may_follow_decided entry (happenings.Event event tag) = both (empty_decided entry.missed) (none_decided entry.choice)
may_follow_decided entry (happenings.Miss tag) = none_decided entry.choice
may_follow_decided entry (happenings.Choice choice) = inl tt

-- it comes in order, or it doesn't
pub keeps_order_decided : (draft : DraftValue) (line : Line) → Decided (KeepsOrder draft.air line)
keeps_order_decided draft (lines.Air exchange happening) =
    both (le_decided draft.air.exchange exchange) (in_case (number_decided exchange draft.air.exchange) (may_follow_decided draft.air.latest happening))
keeps_order_decided draft line = inl tt

-- it is no second choice, or it is one
pub chooses_once_decided : (draft : DraftValue) (line : Line) → Decided (ChoosesOnce draft.air line)
chooses_once_decided draft (lines.Air exchange (happenings.Choice choice)) =
    in_case (number_decided exchange draft.air.exchange) (none_decided draft.air.latest.choice)
chooses_once_decided draft line = inl tt
