-- Profile: the reason `portal`: the first line of a scenario that one of two portals doesn't have.
use Rattle.std.specs.Prelude.{ℕ, ◌+◌, ◌==◌, not, Bool, true, false, List, [], ◌∷◌, ◌++◌, Option, Some, None, if◌then◌else◌}
use Rattle.std.specs.List.{flat_map}
use Rattle.air_events.specs.declared.Several.{Several}
use Rattle.air_events.specs.declared.Several.TheVariants as severals
use Rattle.runs.specs.PortalHistories.{other_portal}
use Rattle.scenario.specs.ScenarioText.{scenario_lines, step_lines}
use Rattle.scenario.specs.declared.values.Scenario.{Scenario}
use Rattle.scenario.specs.declared.values.Step.{Step}
use Rattle.scenario_lines.specs.declared.version.Version.{Version}
use Rattle.scenario_lines.specs.declared.version.Version.TheVariants.{One, Two}
use Rattle.scenario_lines.specs.declared.line.Line.{Line}
use Rattle.scenario_lines.specs.declared.line.Line.TheVariants as lines

-- the channel gives one of several replies
abbrev pub captures : Several → Bool
captures severals.Break = false
captures severals.Capture = true

-- Where the round of a session comes next, the line is none of two portals: it lets the channel capture, says something of an exchange,
-- names an EPC or an operation, or is a step that isn't a round of this session.
abbrev pub is_refused : ℕ → Line → Bool
is_refused next (lines.Version version) = false
is_refused next (lines.Link link) = false
is_refused next (lines.Default several) = captures several
is_refused next (lines.Tag tag) = false
is_refused next (lines.Copies count tag) = false
is_refused next (lines.Air exchange happening) = true
is_refused next (lines.Select selection) = true
is_refused next lines.Nak = true
is_refused next (lines.Event event tag) = true
is_refused next (lines.Round version spec) = not (spec.session == next)
is_refused next (lines.Only epc) = true
is_refused next (lines.Op op) = true
is_refused next lines.End = false

-- the session whose round comes next behind a line
abbrev pub next_behind : ℕ → Line → ℕ
next_behind next (lines.Round version spec) = other_portal next
next_behind next line = next

-- the number of the first such line, where the first of these lines has this number
abbrev pub first_refused : (number next : ℕ) → List Line → Option ℕ
first_refused number next [] = None
first_refused number next (line ∷ later) = if is_refused next line then Some number else first_refused (number + 1) (next_behind next line) later

-- the number of the first line of a scenario that one of two portals doesn't have: the first round is to be one of session 2
abbrev pub portal_fault : Scenario → Option ℕ
portal_fault scenario = first_refused 1 2 (scenario_lines scenario)

-- how many lines of a scenario stand before those of its tags
abbrev pub head_length : Version → ℕ
head_length One = 2
head_length Two = 3

-- the lines of the steps, and the last one
abbrev pub lines_of_steps : Version → List Step → List Line
lines_of_steps version steps = flat_map (step_lines version) steps ++ lines.End ∷ []
