-- Profile: which lines the report of a mode has, and how they are spelled.
use Rattle.std.specs.Prelude.{ℕ, Bool, true, false, ◌&&◌, not, List, [], if◌then◌else◌}
use Rattle.report_lines.specs.JsonLines.{json_line_text}
use Rattle.report_lines.specs.ReportLine.{ReportLine, BlfLine, ExchangeLine, MissedLine, AnswerLine, TxLine, RxLine, GivenLine, report_line_text, text_by}
use Rattle.report_lines.specs.declared.mode.Mode.{Mode}
use Rattle.report_lines.specs.declared.mode.Mode.TheVariants.{Plain, Trace, Json, Exchanges, Vcd}

-- a line that a trace alone has: the backscatter link frequency, and what was sent and came back in an exchange
abbrev pub is_of_trace : ReportLine → Bool
is_of_trace (BlfLine numerator denominator) = true
is_of_trace (TxLine exchange intervals) = true
is_of_trace (RxLine exchange count levels) = true
is_of_trace line = false

-- a line that a report of exchanges alone has: the command, who missed it, what each tag answered, and what the channel gave
abbrev pub is_of_exchanges : ReportLine → Bool
is_of_exchanges (ExchangeLine exchange command) = true
is_of_exchanges (MissedLine exchange tag) = true
is_of_exchanges (AnswerLine exchange tag extended reply) = true
is_of_exchanges (GivenLine exchanged) = true
is_of_exchanges line = false

-- a line that each report has
abbrev pub is_plain : ReportLine → Bool
is_plain line = not (is_of_trace line) && not (is_of_exchanges line)

-- the report of a mode has the line; a dump is drawn of all that is told
abbrev pub keeps : Mode → ReportLine → Bool
keeps Plain line = is_plain line
keeps Trace line = not (is_of_exchanges line)
keeps Json line = is_plain line
keeps Exchanges line = not (is_of_trace line)
keeps Vcd line = true

-- the text of a line in the report of a mode, which has it; a dump is no text by lines
abbrev pub line_text_of : Mode → ReportLine → List ℕ
line_text_of Plain line = report_line_text line
line_text_of Trace line = report_line_text line
line_text_of Json line = json_line_text line
line_text_of Exchanges line = report_line_text line
line_text_of Vcd line = []

-- what the report of a mode has of a line
abbrev pub kept_line_text : Mode → ReportLine → List ℕ
kept_line_text mode line = if keeps mode line then line_text_of mode line else []

-- the report of a mode, of lines that are told
abbrev pub kept_text : Mode → List ReportLine → List ℕ
kept_text mode lines = text_by (kept_line_text mode) lines
