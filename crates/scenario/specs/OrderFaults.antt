-- Profile: why a line doesn't agree with the lines before it, said of these lines alone. The lines are those behind one
-- another from the first line of a scenario on.
use Rattle.std.specs.Prelude.{◌≡◌, ◌≢◌, ℕ, ◌+◌, ◌≤◌, Bool, true, false, List, [], ◌∷◌, length, filter}
use Rattle.std.specs.List.{AllByRecursion}
use Rattle.scenario_lines.specs.declared.keywords.Keyword.{Keyword}
use Rattle.scenario_lines.specs.declared.keywords.Keyword.TheVariants as keywords
use Rattle.scenario_lines.specs.declared.version.Version.{Version}
use Rattle.scenario_lines.specs.declared.version.Version.TheVariants.{One, Two}
use Rattle.scenario_lines.specs.declared.line.Happening.{Happening}
use Rattle.scenario_lines.specs.declared.line.Happening.TheVariants as happenings
use Rattle.scenario_lines.specs.declared.line.Line.{Line}
use Rattle.scenario_lines.specs.declared.line.Line.TheVariants as lines
use Rattle.checked_lines.specs.declared.fault.FaultReason.{FaultReason}
use Rattle.checked_lines.specs.declared.fault.FaultReason.TheVariants.{Order, Number, Copies, Tag, Twice}
use Rattle.scenario.specs.Limits.{most_tags_of, most_air_lines, most_ops, most_steps}
use Rattle.scenario.specs.Faults.{IsFirstUnmet}
use Rattle.scenario.specs.Standing.{IsOfVersion, MayCopy, NamesTag, head_size}

-- the version that the first line names
abbrev pub version_in : List Line → Version
version_in (lines.Version version ∷ more) = version
version_in before = One

-- how many tags a line stands for
abbrev pub tags_by : Line → ℕ
tags_by (lines.Tag tag) = 1
tags_by (lines.Copies count tag) = count
tags_by line = 0

-- how many tags these lines of a scenario stand for
abbrev pub tags_in : List Line → ℕ
tags_in [] = 0
tags_in (line ∷ more) = tags_by line + tags_in more

-- the line is an air line
abbrev pub is_air : Line → Bool
is_air (lines.Air exchange happening) = true
is_air line = false

-- the line is that of a step: a Select, a NAK, an event or a round
abbrev pub is_step : Line → Bool
is_step (lines.Select selection) = true
is_step lines.Nak = true
is_step (lines.Event event tag) = true
is_step (lines.Round version spec) = true
is_step line = false

-- how many of the lines are air lines and steps
abbrev pub airs_in : List Line → ℕ
airs_in before = length (filter is_air before)

abbrev pub steps_in : List Line → ℕ
steps_in before = length (filter is_step before)

-- how many operations come behind the last of the steps, where so many came already
abbrev pub ops_behind : ℕ → List Line → ℕ
ops_behind count [] = count
ops_behind count (lines.Select selection ∷ more) = ops_behind 0 more
ops_behind count (lines.Nak ∷ more) = ops_behind 0 more
ops_behind count (lines.Event event tag ∷ more) = ops_behind 0 more
ops_behind count (lines.Round version spec ∷ more) = ops_behind 0 more
ops_behind count (lines.Op op ∷ more) = ops_behind (count + 1) more
ops_behind count (line ∷ more) = ops_behind count more

-- there are as many tags, or lines of this kind, already as there may be
abbrev pub IsFullBefore : List Line → Keyword → Type 0
IsFullBefore before keywords.Tag = most_tags_of (version_in before) ≤ tags_in before
IsFullBefore before keywords.Copies = most_tags_of (version_in before) ≤ tags_in before
IsFullBefore before keywords.Air = most_air_lines ≤ airs_in before
IsFullBefore before keywords.Select = most_steps ≤ steps_in before
IsFullBefore before keywords.Nak = most_steps ≤ steps_in before
IsFullBefore before keywords.Event = most_steps ≤ steps_in before
IsFullBefore before keywords.Round = most_steps ≤ steps_in before
IsFullBefore before keywords.Op = most_ops ≤ ops_behind 0 before
IsFullBefore before keyword = ⊥

-- the line is a round
abbrev pub IsRoundLine : Line → Type 0
IsRoundLine (lines.Round version spec) = Unit {0}
IsRoundLine line = ⊥

-- the last of the lines is one
abbrev pub EndsInRound : List Line → Type 0
EndsInRound [] = ⊥
EndsInRound (line ∷ []) = IsRoundLine line
EndsInRound (line ∷ next ∷ more) = EndsInRound (next ∷ more)

-- the line is another than the end
abbrev pub IsNoEnd : Line → Type 0
IsNoEnd lines.End = ⊥
IsNoEnd line = Unit {0}

-- the version is the first line, the link the second and the default of version 2 the third; the others come behind these
abbrev pub ComesAsLine : List Line → Keyword → Type 0
ComesAsLine before keywords.Version = length before ≡ 0
ComesAsLine before keywords.Link = length before ≡ 1
ComesAsLine before keywords.Default = (version_in before ≡ Two) × (length before ≡ 2)
ComesAsLine before keyword = head_size (version_in before) ≤ length before

-- Tags come before air lines and steps, and copies in version 2 alone; air lines come before steps. `only` comes right behind a
-- round, and an operation where the last step is a round.
abbrev pub ComesInOrder : List Line → Keyword → Type 0
ComesInOrder before keywords.Tag = (airs_in before ≡ 0) × (steps_in before ≡ 0)
ComesInOrder before keywords.Copies = (version_in before ≡ Two) × (airs_in before ≡ 0) × (steps_in before ≡ 0)
ComesInOrder before keywords.Air = steps_in before ≡ 0
ComesInOrder before keywords.Only = EndsInRound before
ComesInOrder before keywords.Op = EndsInRound (filter is_step before)
ComesInOrder before keyword = Unit {0}

-- a line of this kind may stand behind the lines
pub record MayStandBehind (before : List Line) (keyword : Keyword) : Type 0 where
  pub goes_on : AllByRecursion IsNoEnd before
  pub place : ComesAsLine before keyword
  pub order : ComesInOrder before keyword

-- of one exchange events come first, then misses, and the choice last
abbrev pub happening_turn : Happening → ℕ
happening_turn (happenings.Event event tag) = 0
happening_turn (happenings.Miss tag) = 1
happening_turn (happenings.Choice choice) = 2

-- an earlier air line is of no later exchange, and what it says of the same exchange comes no later
abbrev pub ComesBefore : ℕ → Happening → Line → Type 0
ComesBefore exchange happening (lines.Air other said) = (other ≤ exchange) × (other ≡ exchange → happening_turn said ≤ happening_turn happening)
ComesBefore exchange happening line = Unit {0}

-- an earlier line is no choice for the exchange
abbrev pub ChoosesOther : ℕ → Line → Type 0
ChoosesOther exchange (lines.Air other (happenings.Choice choice)) = other ≢ exchange
ChoosesOther exchange line = Unit {0}

-- the exchanges of the air lines don't fall, and what they say of one exchange comes in order
abbrev pub KeepsOrderBehind : List Line → Line → Type 0
KeepsOrderBehind before (lines.Air exchange happening) = AllByRecursion (ComesBefore exchange happening) before
KeepsOrderBehind before line = Unit {0}

-- no earlier line is a choice for the exchange of a choice
abbrev pub ChoosesFirst : List Line → Line → Type 0
ChoosesFirst before (lines.Air exchange (happenings.Choice choice)) = AllByRecursion (ChoosesOther exchange) before
ChoosesFirst before line = Unit {0}

-- The first reason for which a line that may stand here doesn't agree with the lines before it: it is a round of another
-- version; it is copies that have no EPC to differ in, or are too many; its tag has no line among them; it is out of order; or
-- it is a second choice.
abbrev pub DisagreesWith : List Line → Line → FaultReason → Type 0
DisagreesWith before line =
    IsFirstUnmet (IsOfVersion (version_in before) line) Number
    (IsFirstUnmet (MayCopy (tags_in before) line) Copies
    (IsFirstUnmet (NamesTag (tags_in before) line) Tag
    (IsFirstUnmet (KeepsOrderBehind before line) Order
    (IsFirstUnmet (ChoosesFirst before line) Twice (λ fault. ⊥)))))
