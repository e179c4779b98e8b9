use Rattle.std.proofs.Common.{◌≡◌, ◌∙◌, ap, arith, refl}
use Rattle.std.proofs.lemmas.Result.{on_ok_weaker}
use Rattle.report_lines.proofs.Members.{line_written, written_utf8}
use Rattle.report_lines.proofs.Objects.{tag_simple}
use Rattle.report_lines.specs.JsonLines.{digits_of, json_pairs, tag_pairs}
use Rattle.report_lines.specs.ReportLine.{TagLine, flags_word, state_word}
use Rattle.tag_machine.specs.Hearing.{tag_value_of}
use Rattle.tag_machine.specs.StateNames.{name_of}
use Rattle.tag_memory.specs.Memory.{Banks}
use Rattle.wire_text.specs.PasswordsAndLocks.{locks_text}
use Rattle.report_lines.proofs.json_writing.push_tag_object.Goals as goal

pub push_object-requires : goal.push_object-requires
push_object-requires c = record {
  utf8 = λ bytes is.
      written_utf8 (tag_pairs c.as_str.result.now c.as_str-2.result.now c.as_str-3.result.now c.args.number c.as_str-4.result.now c.state_text.result.now c.as_str-5.result.now c.as_str-6.result.now) bytes
      (tag_simple _ _ _ c.args.number _ _ _ _ c.as_str.utf8 c.as_str-2.utf8 c.as_str-3.utf8 (omega arith) c.as_str-4.utf8 c.state_text.utf8 c.as_str-5.utf8 c.as_str-6.utf8) is;
}

pub returns : goal.returns
returns c =
    let tag = tag_value_of c.args.tag.now in
    let memory : Banks = tag.body.memory in
    let epc : c.as_str.result.now ≡ digits_of memory.epc = c.as_str.ensures.value ∙ c.in_ok-set_banks.ensures.epc ∙ ap (λ (banks : Banks). digits_of banks.epc) c.memory.ensures in
    let flags : c.as_str-2.result.now ≡ flags_word tag.body.flags = c.as_str-2.ensures.value ∙ c.in_ok-set_flags.ensures ∙ ap flags_word c.flags.ensures in
    let locks : c.as_str-3.result.now ≡ locks_text tag.body.locks = c.as_str-3.ensures.value ∙ c.in_ok-set_locks.ensures ∙ ap locks_text c.locks.ensures in
    let reserved : c.as_str-4.result.now ≡ digits_of memory.reserved =
    c.as_str-4.ensures.value ∙ c.in_ok-set_banks.ensures.reserved ∙ ap (λ (banks : Banks). digits_of banks.reserved) c.memory.ensures in
    let state : c.state_text.result.now ≡ state_word (name_of tag.state) = c.state_text.ensures ∙ ap state_word c.state.ensures.value in
    let tid : c.as_str-5.result.now ≡ digits_of memory.tid = c.as_str-5.ensures.value ∙ c.in_ok-set_banks.ensures.tid ∙ ap (λ (banks : Banks). digits_of banks.tid) c.memory.ensures in
    let user : c.as_str-6.result.now ≡ digits_of memory.user = c.as_str-6.ensures.value ∙ c.in_ok-set_banks.ensures.user ∙ ap (λ (banks : Banks). digits_of banks.user) c.memory.ensures in
    on_ok_weaker c.push_object.result (λ is.
    line_written (tag_pairs c.as_str.result.now c.as_str-2.result.now c.as_str-3.result.now c.args.number c.as_str-4.result.now c.state_text.result.now c.as_str-5.result.now c.as_str-6.result.now) (json_pairs (TagLine c.args.number tag)) is.0 _ _
    (tag_simple _ _ _ c.args.number _ _ _ _ c.as_str.utf8 c.as_str-2.utf8 c.as_str-3.utf8 (omega arith) c.as_str-4.utf8 c.state_text.utf8 c.as_str-5.utf8 c.as_str-6.utf8)
    (rw (epc, flags, locks, reserved, state, tid, user) refl) is.1 is.2)
    c.push_object.ensures
