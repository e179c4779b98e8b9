use Rattle.std.proofs.Common.{◌≡◌, ◌++◌, map, take}
use Rattle.std.specs.String.{string_bytes}
use Rattle.text_fields.specs.Lines.{text_with}
use Rattle.scenario_lines.specs.declared.line.Happening.TheVariants as happenings
use Rattle.scenario_lines.specs.declared.line.Line.TheVariants as lines
use Rattle.scenario_lines.specs.Spelling.{line_text}
use Rattle.scenario.proofs.printing.push_missed.Given as goal

-- the text has gained the lines of the items so far
abbrev pub invariant-loop-tag : goal.invariant-loop-tag
invariant-loop-tag l =
    string_bytes l.text ≡ string_bytes l.initial.text ++ text_with (map line_text (map (λ tag. lines.Air l.exchange (happenings.Miss tag)) (take l.tag-index l.missed)))
