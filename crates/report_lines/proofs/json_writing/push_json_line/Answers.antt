use Rattle.std.proofs.Common.{◌++◌, ◌∙◌, ap, refl, sym}
use Rattle.std.proofs.lemmas.Result.{IfOk-equal, on_ok_weaker}
use Rattle.std.specs.String.{string_bytes}
use Rattle.report_lines.proofs.Members.{line_written, written_utf8}
use Rattle.report_lines.proofs.Objects.{done_simple}
use Rattle.report_lines.specs.JsonLines.{done_pairs, json_line_text}
use Rattle.report_lines.specs.Line.{line_of}
use Rattle.report_lines.specs.ReportLine.{ReportLine}
use Rattle.report_lines.proofs.json_writing.push_json_line.Goals as goal

pub push_object-requires : goal.push_object-requires
push_object-requires c = record { utf8 = λ bytes is. written_utf8 done_pairs bytes done_simple is }

pub returns-in-Done : goal.returns-in-Done
returns-in-Done c =
    on_ok_weaker c.push_object.result (λ is.
    line_written done_pairs done_pairs is.0 _ _ done_simple refl is.1 is.2
    ∙ ap (λ (line : ReportLine). string_bytes c.args.text.now ++ json_line_text line) (sym (ap line_of c.in-Done.is)))
    c.push_object.ensures

pub returns-in-Tag : goal.returns-in-Tag
returns-in-Tag c =
    IfOk-equal _ _ _ _ c.push_tag_object.ensures (ap (λ (line : ReportLine). string_bytes c.args.text.now ++ json_line_text line) (sym (ap line_of c.in-Tag.is)))
