use Rattle.std.proofs.Common.{◌≡◌, ◌∙◌, ap, arith, refl}
use Rattle.std.proofs.lemmas.Result.{on_ok_weaker}
use Rattle.report_lines.proofs.Members.{line_written, written_utf8}
use Rattle.report_lines.proofs.Objects.{list_simple}
use Rattle.report_lines.specs.JsonLines.{digits_of, json_pairs, list_pairs}
use Rattle.report_lines.specs.ReportLine.{ListLine}
use Rattle.text_fields.specs.Hexadecimal.{hex_word}
use Rattle.report_lines.proofs.json_writing.push_list_object.Goals as goal

pub push_object-requires : goal.push_object-requires
push_object-requires c = record { utf8 = λ bytes is. written_utf8 (list_pairs c.as_str.result.now c.as_str-2.result.now c.args.round c.args.slot) bytes (list_simple _ _ c.args.round c.args.slot c.as_str.utf8 c.as_str-2.utf8 (omega arith) (omega arith)) is }

pub returns : goal.returns
returns c =
    let epc : c.as_str.result.now ≡ digits_of c.args.epc.now = c.as_str.ensures.value ∙ c.in_ok-set_words.ensures ∙ ap digits_of c.as_slice.ensures.value in
    let pc : c.as_str-2.result.now ≡ hex_word c.args.pc = c.as_str-2.ensures.value ∙ c.in_ok-set_word.ensures in
    on_ok_weaker c.push_object.result (λ is.
    line_written (list_pairs c.as_str.result.now c.as_str-2.result.now c.args.round c.args.slot) (json_pairs (ListLine c.args.round c.args.slot c.args.pc c.args.epc.now)) is.0 _ _
    (list_simple _ _ c.args.round c.args.slot c.as_str.utf8 c.as_str-2.utf8 (omega arith) (omega arith)) (rw (epc, pc) refl) is.1 is.2)
    c.push_object.ensures
