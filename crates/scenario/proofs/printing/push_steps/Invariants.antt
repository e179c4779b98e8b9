use Rattle.std.proofs.Common.{◌≡◌, ◌++◌, map, take}
use Rattle.std.specs.List.{flat_map}
use Rattle.std.specs.String.{string_bytes}
use Rattle.text_fields.specs.Lines.{text_with}
use Rattle.scenario_lines.specs.Spelling.{line_text}
use Rattle.scenario.specs.ScenarioText.{step_lines}
use Rattle.scenario.proofs.printing.push_steps.Given as goal

-- the text has gained the lines of the items so far
abbrev pub invariant-loop-step : goal.invariant-loop-step
invariant-loop-step l =
    string_bytes l.text ≡ string_bytes l.initial.text ++ text_with (map line_text (flat_map (step_lines l.version) (take l.step-index l.steps)))
