use Rattle.std.proofs.Common.{◌≡◌, ◌∙◌, arith, refl}
use Rattle.std.proofs.lemmas.Result.{on_ok_weaker}
use Rattle.report_lines.proofs.Members.{line_written, written_utf8}
use Rattle.report_lines.proofs.Objects.{op_simple}
use Rattle.report_lines.specs.JsonLines.{json_pairs, op_pairs, result_value}
use Rattle.report_lines.specs.ReportLine.{OpLine}
use Rattle.report_lines.proofs.json_writing.push_op_object.Goals as goal

pub push_object-requires : goal.push_object-requires
push_object-requires c = record { utf8 = λ bytes is. written_utf8 (op_pairs c.args.index c.result_name.result.now c.args.round c.args.slot c.as_str.result.now) bytes (op_simple c.args.index _ c.args.round c.args.slot _ (omega arith) c.result_name.utf8 (omega arith) (omega arith) c.as_str.utf8) is }

pub returns : goal.returns
returns c =
    let value : c.as_str.result.now ≡ result_value c.args.ended.now = c.as_str.ensures.value ∙ c.in_ok-set_result.ensures in
    on_ok_weaker c.push_object.result (λ is.
    line_written (op_pairs c.args.index c.result_name.result.now c.args.round c.args.slot c.as_str.result.now) (json_pairs (OpLine c.args.round c.args.slot c.args.index c.args.ended.now)) is.0 _ _
    (op_simple c.args.index _ c.args.round c.args.slot _ (omega arith) c.result_name.utf8 (omega arith) (omega arith) c.as_str.utf8) (rw (c.result_name.ensures, value) refl) is.1 is.2)
    c.push_object.ensures
