-- Profile: the air lines that spell what is said of exchanges.
use Rattle.std.specs.Prelude.{ℕ, List, [], ◌∷◌, ◌++◌, map, Option, Some, None}
use Rattle.std.specs.List.{flat_map}
use Rattle.air_events.specs.declared.Choice.{Choice}
use Rattle.air_events.specs.declared.Entry.{Entry}
use Rattle.scenario_lines.specs.declared.line.Happening.TheVariants as happenings
use Rattle.scenario_lines.specs.declared.line.Line.{Line}
use Rattle.scenario_lines.specs.declared.line.Line.TheVariants as lines

-- the line of a choice, where one is made
abbrev pub choice_lines : ℕ → Option Choice → List Line
choice_lines exchange None = []
choice_lines exchange (Some choice) = lines.Air exchange (happenings.Choice choice) ∷ []

-- the lines of what is said of one exchange: the events, then the misses, then the choice
abbrev pub entry_lines : ℕ × Entry → List Line
entry_lines entry =
    map (λ event. lines.Air entry.0 (happenings.Event event.0 event.1)) entry.1.events
    ++ map (λ tag. lines.Air entry.0 (happenings.Miss tag)) entry.1.missed
    ++ choice_lines entry.0 entry.1.choice

-- the air lines of a scenario
abbrev pub air_lines : List (ℕ × Entry) → List Line
air_lines entries = flat_map entry_lines entries
