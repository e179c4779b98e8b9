use Rattle.std.proofs.Common.{ℕ, List, ◌++◌, ◌∙◌, ap}
use Rattle.std.proofs.lemmas.Result.{on_ok_weaker}
use Rattle.std.specs.String.{string_bytes}
use Rattle.text_fields.specs.Lines.{line_with}
use Rattle.report_lines.specs.ReportLine.{DoneLine, TagLine, report_fields, report_line_text}
use Rattle.tag_machine.specs.Hearing.{tag_value_of}
use Rattle.bench_lines.proofs.HeardAnswers.{two_lines}
use Rattle.bench_lines.proofs.playing.PlayingRooms.tell_tag.Goals as goal

pub returns : goal.returns
returns c =
    on_ok_weaker c.push_done_line.result
    (λ added. added ∙ ap (λ (t : List ℕ). t ++ report_line_text DoneLine) c.in_ok-push_tag_line.ensures
    ∙ two_lines (string_bytes c.args.self.now.text) (line_with (report_fields (TagLine 0 (tag_value_of c.args.tag.now)))) (line_with (report_fields DoneLine)))
    c.push_done_line.ensures
