-- Profile: what the lines of a scenario have said so far, from the first line behind its head on.
use Rattle.std.specs.Prelude.{ℕ, List, [], ◌∷◌, ◌++◌, length}
use Rattle.air_events.specs.declared.Several.{Several}
use Rattle.command_grammar.specs.declared.commands.Command.TheVariants as commands
use Rattle.pie_line.specs.Link.{LinkValue}
use Rattle.scenario_lines.specs.declared.version.Version.{Version}
use Rattle.scenario_lines.specs.declared.line.Line.{Line}
use Rattle.scenario_lines.specs.declared.line.Line.TheVariants as lines
use Rattle.scenario.specs.declared.values.Step.{Step}
use Rattle.scenario.specs.declared.values.Step.TheVariants as steps
use Rattle.scenario.specs.declared.values.TagGroup.{TagGroup}
use Rattle.scenario.specs.declared.values.Scenario.{Scenario}
use Rattle.scenario.specs.Groups.{tags_of}
use Rattle.scenario.specs.AirLinesSoFar.{AirLinesValue, entries_of, no_air_lines, with_air_line}
use Rattle.scenario.specs.StepLinesSoFar.{StepLinesValue, no_step_lines, steps_of, with_only, with_op, with_round, with_step}

-- what the lines of a scenario's head say, which stand before all others
pub record HeadValue : Type 0 where
  pub version : Version
  pub link : LinkValue
  pub several : Several

pub record DraftValue : Type 0 where
  pub head : HeadValue
  pub groups : List TagGroup
  pub air : AirLinesValue
  pub steps : StepLinesValue

-- behind the head nothing is said yet
abbrev pub new_draft : HeadValue → DraftValue
new_draft head = record { head = head; groups = []; air = no_air_lines; steps = no_step_lines }

-- how many tags the lines of the scenario have named so far
abbrev pub tag_count : DraftValue → ℕ
tag_count draft = length (tags_of draft.groups)

-- the scenario that is said
abbrev pub scenario_of : DraftValue → Scenario
scenario_of draft = record {
  version = draft.head.version;
  link = draft.head.link;
  several = draft.head.several;
  groups = draft.groups;
  entries = entries_of draft.air;
  steps = steps_of draft.steps;
}

-- the draft after a step that is no round
abbrev pub draft_with_step : DraftValue → Step → DraftValue
draft_with_step draft step = record draft { steps = with_step draft.steps step }

-- the draft after the line of a group of tags
abbrev pub draft_with_group : DraftValue → TagGroup → DraftValue
draft_with_group draft group = record draft { groups = draft.groups ++ group ∷ [] }

-- the draft after a line that may follow
abbrev pub draft_after : DraftValue → Line → DraftValue
draft_after draft (lines.Tag tag) = draft_with_group draft (record { count = 1; spec = tag })
draft_after draft (lines.Copies count tag) = draft_with_group draft (record { count = count; spec = tag })
draft_after draft (lines.Air exchange happening) = record draft { air = with_air_line draft.air exchange happening }
draft_after draft (lines.Select selection) =
    draft_with_step draft (steps.Select (commands.Select selection.target selection.action selection.bank selection.pointer selection.mask))
draft_after draft lines.Nak = draft_with_step draft steps.Nak
draft_after draft (lines.Event event tag) = draft_with_step draft (steps.Event event tag)
draft_after draft (lines.Round version spec) = record draft { steps = with_round draft.steps spec }
draft_after draft (lines.Only epc) = record draft { steps = with_only draft.steps epc }
draft_after draft (lines.Op op) = record draft { steps = with_op draft.steps op }
draft_after draft line = draft
