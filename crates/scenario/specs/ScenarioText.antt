-- Profile: the one spelling of a scenario.
use Rattle.std.specs.Prelude.{◌≡◌, ◌==◌, ℕ, List, [], ◌∷◌, ◌++◌, map, Option, Some, None, if◌then◌else◌}
use Rattle.std.specs.List.{flat_map}
use Rattle.text_fields.specs.Lines.{text_with}
use Rattle.command_grammar.specs.declared.commands.Command.TheVariants as commands
use Rattle.access_ops.specs.declared.OpList.{OpList}
use Rattle.air_events.specs.declared.Several.{Several}
use Rattle.pie_line.specs.Link.{LinkValue}
use Rattle.scenario_lines.specs.declared.version.Version.{Version}
use Rattle.scenario_lines.specs.declared.version.Version.TheVariants.{One, Two}
use Rattle.scenario_lines.specs.declared.line.Line.{Line}
use Rattle.scenario_lines.specs.declared.line.Line.TheVariants as lines
use Rattle.scenario_lines.specs.Spelling.{line_text}
use Rattle.scenario.specs.declared.values.Step.{Step}
use Rattle.scenario.specs.declared.values.Step.TheVariants as steps
use Rattle.scenario.specs.declared.values.TagGroup.{TagGroup}
use Rattle.scenario.specs.declared.values.Scenario.{Scenario}
use Rattle.scenario.specs.EntryLines.{air_lines}
use Rattle.scenario.specs.Limits.{IsScenario}

-- the line of what the channel gives where several tags reply and nothing is chosen, which version 1 doesn't have
abbrev pub default_lines : Version → Several → List Line
default_lines One several = []
default_lines Two several = lines.Default several ∷ []

-- the lines that stand before all others
abbrev pub head_lines : Version → LinkValue → Several → List Line
head_lines version link several = lines.Version version ∷ lines.Link link ∷ default_lines version several

-- the line of a group of tags: a tag line where it has one, else a copies line
abbrev pub group_line : TagGroup → Line
group_line group = if group.count == 1 then lines.Tag group.spec else lines.Copies group.count group.spec

-- the line of the one EPC that a round's operations are for, where one is named
abbrev pub only_lines : Option (List ℕ) → List Line
only_lines None = []
only_lines (Some epc) = lines.Only epc ∷ []

-- the lines of a round's operations
abbrev pub operation_lines : OpList → List Line
operation_lines operations = only_lines operations.only ++ map lines.Op operations.ops

-- The lines of a step, which is one but for a round with operations. No Select step has another command than a Select. Each
-- version spells the rule of a round in its way.
abbrev pub step_lines : Version → Step → List Line
step_lines version (steps.Select (commands.Select target action bank pointer mask)) =
    lines.Select (record { target = target; action = action; bank = bank; pointer = pointer; mask = mask }) ∷ []
step_lines version (steps.Select command) = lines.Nak ∷ []
step_lines version steps.Nak = lines.Nak ∷ []
step_lines version (steps.Event event tag) = lines.Event event tag ∷ []
step_lines version (steps.Round spec operations) = lines.Round version spec ∷ operation_lines operations

-- the lines of a scenario
abbrev pub scenario_lines : Scenario → List Line
scenario_lines scenario =
    head_lines scenario.version scenario.link scenario.several ++ map group_line scenario.groups ++ air_lines scenario.entries
    ++ flat_map (step_lines scenario.version) scenario.steps ++ lines.End ∷ []

-- the text of a scenario
abbrev pub scenario_text : Scenario → List ℕ
scenario_text scenario = text_with (map line_text (scenario_lines scenario))

-- the bytes are the text of a scenario that keeps the limits
abbrev pub IsScenarioText : List ℕ → Type 0
IsScenarioText bytes = (scenario : Scenario) × IsScenario scenario × (bytes ≡ scenario_text scenario)
