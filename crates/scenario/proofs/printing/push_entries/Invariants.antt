use Rattle.std.proofs.Common.{◌≡◌, ◌++◌, map, take}
use Rattle.std.specs.String.{string_bytes}
use Rattle.text_fields.specs.Lines.{text_with}
use Rattle.scenario_lines.specs.Spelling.{line_text}
use Rattle.scenario.specs.EntryLines.{air_lines}
use Rattle.scenario.proofs.printing.push_entries.Given as goal

-- the text has gained the lines of the items so far
abbrev pub invariant-loop-exchange : goal.invariant-loop-exchange
invariant-loop-exchange l =
    string_bytes l.text ≡ string_bytes l.initial.text ++ text_with (map line_text (air_lines (take l.exchange-index l.entries)))
