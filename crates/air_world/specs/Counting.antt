-- Profile: what is counted of the lines that a run tells.
use Rattle.std.specs.Prelude.{◌≡◌, ◌+◌, ◌<◌, ◌^◌, ◌&&◌, true, List, [], ◌∷◌}
use Rattle.report_lines.specs.ReportLine.{ReportLine, ListLine, RoundLine, SeenLine, TagLine}
use Rattle.runs.specs.Summary.{is_quiet}
use Rattle.runs.specs.declared.summary.Summary.{Summary}

-- nothing is counted yet
abbrev pub nothing_counted : Summary
nothing_counted = record { tags = 0; listed = 0; distinct = 0; slots = 0; quiet = true }

-- what is counted of a run behind one more of its lines
abbrev pub counted_line : Summary → ReportLine → Summary
counted_line counted (ListLine round slot pc epc) = record counted { listed = counted.listed + 1 }
counted_line counted (RoundLine round end slots) = record counted { slots = counted.slots + slots; quiet = counted.quiet && is_quiet end }
counted_line counted (SeenLine count pc epc) = record counted { distinct = counted.distinct + 1 }
counted_line counted (TagLine number tag) = record counted { tags = counted.tags + 1 }
counted_line counted line = counted

-- what is counted of a run behind these lines more, one after the other
abbrev pub counted_lines : Summary → List ReportLine → Summary
counted_lines counted [] = counted
counted_lines counted (line ∷ lines) = counted_lines (counted_line counted line) lines

-- each number has room
pub record Fits (counted : Summary) : Type 0 where
  pub tags : counted.tags < 2 ^ 32
  pub listed : counted.listed < 2 ^ 64
  pub distinct : counted.distinct < 2 ^ 64
  pub slots : counted.slots < 2 ^ 64

-- the lines are counted, as long as there is room
pub record CountsLines (lines : List ReportLine) (first later : Summary) : Type 0 where
  pub counted : Fits (counted_lines first lines) → later ≡ counted_lines first lines
