-- The entries of a map from pairs of PC and EPC to counts, as counts.
use Rattle.std.specs.Prelude.{ℕ, List, map}
use Rattle.report_lines.specs.declared.seen_counts.Listed.{Listed}
use Rattle.report_lines.specs.SeenCounts.{SeenCount}

-- an entry, as a count
abbrev pub seen_of_entry : Listed × ℕ → SeenCount
seen_of_entry entry = record { pc = entry.0.pc; epc = entry.0.epc; count = entry.1 }

-- the entries in their order, as counts
abbrev pub seen_of_listed : List (Listed × ℕ) → List SeenCount
seen_of_listed entries = map seen_of_entry entries
