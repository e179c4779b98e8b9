use Rattle.std.proofs.Common.{arith, refl}
use Rattle.std.proofs.lemmas.Result.{on_ok_weaker}
use Rattle.report_lines.proofs.Members.{line_written, written_utf8}
use Rattle.report_lines.proofs.Objects.{round_simple}
use Rattle.report_lines.specs.JsonLines.{json_pairs, round_pairs}
use Rattle.report_lines.specs.ReportLine.{RoundLine}
use Rattle.report_lines.proofs.json_writing.push_round_object.Goals as goal

pub push_object-requires : goal.push_object-requires
push_object-requires c = record { utf8 = λ bytes is. written_utf8 (round_pairs c.end_name.result.now c.args.round c.args.slots) bytes (round_simple _ c.args.round c.args.slots c.end_name.utf8 (omega arith) (omega arith)) is }

pub returns : goal.returns
returns c =
    on_ok_weaker c.push_object.result (λ is.
    line_written (round_pairs c.end_name.result.now c.args.round c.args.slots) (json_pairs (RoundLine c.args.round c.args.end c.args.slots)) is.0 _ _
    (round_simple _ c.args.round c.args.slots c.end_name.utf8 (omega arith) (omega arith)) (rw (c.end_name.ensures) refl) is.1 is.2)
    c.push_object.ensures
