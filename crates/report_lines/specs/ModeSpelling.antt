-- Profile: the report of a mode, written line by line as a run tells it, and as one text.
use Rattle.std.specs.Prelude.{ℕ, List, [], ◌∷◌, ◌++◌}
use Rattle.pie_line.specs.Link.{LinkValue}
use Rattle.wave_dump.specs.DumpValue.{DrawingValue}
use Rattle.wave_dump.specs.Waves.{dump_behind, end_text, exchange_text, head_text, new_dump}
use Rattle.report_lines.specs.ModeLines.{kept_line_text, line_text_of}
use Rattle.report_lines.specs.ReportLine.{ReportLine, BlfLine, GivenLine, DoneLine, text_by}
use Rattle.report_lines.specs.declared.mode.Mode.{Mode}
use Rattle.report_lines.specs.declared.mode.Mode.TheVariants.{Vcd}

-- What a line brings to a dump: the first one its head, an exchange that is over its waves, and the last one the end.
abbrev pub drawn_line : DrawingValue → ReportLine → List ℕ
drawn_line drawing (BlfLine numerator denominator) = head_text
drawn_line drawing (GivenLine exchanged) = exchange_text drawing.link drawing.dump exchanged
drawn_line drawing DoneLine = end_text drawing.dump
drawn_line drawing line = []

-- where a dump stands behind a line
abbrev pub drawing_after : DrawingValue → ReportLine → DrawingValue
drawing_after drawing (GivenLine exchanged) = record drawing { dump = dump_behind drawing.link drawing.dump exchanged }
drawing_after drawing line = drawing

-- what lines bring to a dump, one after another
abbrev pub drawn_text : DrawingValue → List ReportLine → List ℕ
drawn_text drawing [] = []
drawn_text drawing (line ∷ lines) = drawn_line drawing line ++ drawn_text (drawing_after drawing line) lines

-- the dump of a run over a link
abbrev pub dump_text : LinkValue → List ReportLine → List ℕ
dump_text link lines = drawn_text (record { link = link; dump = new_dump link }) lines

-- the text of a line, where the dump stands so
abbrev pub spelled_line : Mode → DrawingValue → ReportLine → List ℕ
spelled_line Vcd drawing line = drawn_line drawing line
spelled_line mode drawing line = kept_line_text mode line

-- where the dump stands behind a line
abbrev pub drawing_behind : Mode → DrawingValue → ReportLine → DrawingValue
drawing_behind Vcd drawing line = drawing_after drawing line
drawing_behind mode drawing line = drawing

-- a report of a mode, and where its dump stands
pub record SpellingValue : Type 0 where
  pub mode : Mode
  pub dump : DrawingValue

-- nothing was told yet, of a run over a link
abbrev pub new_spelling : Mode → LinkValue → SpellingValue
new_spelling mode link = record { mode = mode; dump = record { link = link; dump = new_dump link } }

-- the text of a line of a report, by the mode of the spelling and where its dump stands
abbrev pub line_of_mode : SpellingValue → ReportLine → List ℕ
line_of_mode spelling line = spelled_line spelling.mode spelling.dump line

-- where the report stands behind a line
abbrev pub mode_behind : SpellingValue → ReportLine → SpellingValue
mode_behind spelling line = record spelling { dump = drawing_behind spelling.mode spelling.dump line }

-- The text of a report of a mode, of a run over a link: its lines, each as the mode spells it; a dump is drawn of them.
abbrev pub text_in : Mode → LinkValue → List ReportLine → List ℕ
text_in Vcd link lines = dump_text link lines
text_in mode link lines = text_by (line_text_of mode) lines
