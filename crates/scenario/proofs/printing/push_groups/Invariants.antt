use Rattle.std.proofs.Common.{◌≡◌, ◌++◌, map, take}
use Rattle.std.specs.String.{string_bytes}
use Rattle.text_fields.specs.Lines.{text_with}
use Rattle.scenario.specs.ScenarioText.{group_line}
use Rattle.scenario_lines.specs.Spelling.{line_text}
use Rattle.scenario.proofs.printing.push_groups.Given as goal

-- the text has gained the lines of the items so far
abbrev pub invariant-loop-group : goal.invariant-loop-group
invariant-loop-group l =
    string_bytes l.text ≡ string_bytes l.initial.text ++ text_with (map line_text (map group_line (take l.group-index l.groups)))
