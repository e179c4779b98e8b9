use Rattle.std.proofs.Common.{◌≡◌, ◌∙◌, ap, arith, refl}
use Rattle.std.proofs.lemmas.Result.{on_ok_weaker}
use Rattle.report_lines.proofs.Members.{line_written, written_utf8}
use Rattle.report_lines.proofs.Objects.{seen_simple}
use Rattle.report_lines.specs.JsonLines.{digits_of, json_pairs, seen_pairs}
use Rattle.report_lines.specs.ReportLine.{SeenLine}
use Rattle.text_fields.specs.Hexadecimal.{hex_word}
use Rattle.report_lines.proofs.json_writing.push_seen_object.Goals as goal

pub push_object-requires : goal.push_object-requires
push_object-requires c = record { utf8 = λ bytes is. written_utf8 (seen_pairs c.args.times c.as_str.result.now c.as_str-2.result.now) bytes (seen_simple c.args.times _ _ (omega arith) c.as_str.utf8 c.as_str-2.utf8) is }

pub returns : goal.returns
returns c =
    let epc : c.as_str.result.now ≡ digits_of c.args.epc.now = c.as_str.ensures.value ∙ c.in_ok-set_words.ensures ∙ ap digits_of c.as_slice.ensures.value in
    let pc : c.as_str-2.result.now ≡ hex_word c.args.pc = c.as_str-2.ensures.value ∙ c.in_ok-set_word.ensures in
    on_ok_weaker c.push_object.result (λ is.
    line_written (seen_pairs c.args.times c.as_str.result.now c.as_str-2.result.now) (json_pairs (SeenLine c.args.times c.args.pc c.args.epc.now)) is.0 _ _
    (seen_simple c.args.times _ _ (omega arith) c.as_str.utf8 c.as_str-2.utf8) (rw (epc, pc) refl) is.1 is.2)
    c.push_object.ensures
