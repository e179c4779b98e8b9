use Rattle.std.proofs.Common.{◌≡◌, ◌++◌, map, take}
use Rattle.std.specs.String.{string_bytes}
use Rattle.text_fields.specs.Lines.{text_with}
use Rattle.scenario_lines.specs.declared.line.Line.TheVariants as lines
use Rattle.scenario_lines.specs.Spelling.{line_text}
use Rattle.scenario.proofs.printing.push_ops.Given as goal

-- the text has gained the lines of the items so far
abbrev pub invariant-loop-op : goal.invariant-loop-op
invariant-loop-op l =
    string_bytes l.text ≡ string_bytes l.initial.text ++ text_with (map line_text (map lines.Op (take l.op-index l.ops)))
