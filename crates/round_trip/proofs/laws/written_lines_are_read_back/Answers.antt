use Rattle.round_trip.proofs.ReadBack.{line_back, text_back}
use Rattle.round_trip.proofs.laws.written_lines_are_read_back.Goals as goal

pub returns-clause-line : goal.returns-clause-line
returns-clause-line c = line_back (record { frame = c.written_frame.ensures.frame; each = c.written_frame.ensures.each; short = c.spelling_laws.ensures.short })

pub returns-clause-text : goal.returns-clause-text
returns-clause-text c = text_back (record { frame = c.written_frame.ensures.frame; each = c.written_frame.ensures.each; short = c.spelling_laws.ensures.short })
