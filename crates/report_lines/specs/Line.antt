-- Profile: what a run tells, as the lines that definitions speak of.
use Rattle.report_lines.specs.ReportLine.{ReportLine, BlfLine, ExchangeLine, MissedLine, AnswerLine, TxLine, RxLine, GivenLine, ListLine, OpLine, RoundLine, SeenLine, TagLine, DoneLine}
use Rattle.wave_dump.specs.Borrowed.{exchanged_of}
use Rattle.report_lines.specs.declared.line.Line.{Line}
use Rattle.report_lines.specs.declared.line.Line.TheVariants as lines
use Rattle.tag_machine.specs.Hearing.{tag_value_of}

-- the line behind what it borrows
abbrev pub line_of : Line → ReportLine
line_of (lines.Blf numerator denominator) = BlfLine numerator denominator
line_of (lines.Exchange exchange command) = ExchangeLine exchange command.now
line_of (lines.Missed exchange tag) = MissedLine exchange tag
line_of (lines.Answer exchange tag extended reply) = AnswerLine exchange tag extended reply.now
line_of (lines.Tx exchange intervals) = TxLine exchange intervals.now
line_of (lines.Rx exchange count levels) = RxLine exchange count levels.now
line_of (lines.Given exchanged) = GivenLine (exchanged_of exchanged)
line_of (lines.List round slot pc epc) = ListLine round slot pc epc.now
line_of (lines.Op round slot index ended) = OpLine round slot index ended.now
line_of (lines.Round round end slots) = RoundLine round end slots
line_of (lines.Seen count pc epc) = SeenLine count pc epc.now
line_of (lines.Tag number tag) = TagLine number (tag_value_of tag.now)
line_of lines.Done = DoneLine
