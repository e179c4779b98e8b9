-- Each field of a line may stand as a field.
use Rattle.std.proofs.Common.{ℕ, arith}
use Rattle.std.specs.Prelude.{All}
use Rattle.std.proofs.lemmas.List.Elements.{All-cons}
use Rattle.access_ops.specs.declared.Op.{Op}
use Rattle.access_ops.specs.declared.Op.TheVariants as ops
use Rattle.access_ops.specs.laws.OperationLaws.{IsLegalOp}
use Rattle.air_events.specs.declared.Event.{Event}
use Rattle.air_events.specs.declared.Event.TheVariants as events
use Rattle.air_events.specs.declared.Choice.TheVariants as choices
use Rattle.text_fields.specs.Lines.{IsFieldText}
use Rattle.pie_line.specs.Link.{LinkValue}
use Rattle.q_round.specs.SpecValue.{SpecValue}
use Rattle.scenario_lines.specs.declared.version.Version.{Version}
use Rattle.scenario_lines.specs.declared.tag.TagSpec.{TagSpec}
use Rattle.scenario_lines.specs.declared.line.Selection.{Selection}
use Rattle.scenario_lines.specs.declared.line.Happening.{Happening}
use Rattle.scenario_lines.specs.declared.line.Happening.TheVariants as happenings
use Rattle.scenario_lines.specs.declared.line.Line.{Line}
use Rattle.scenario_lines.specs.declared.line.Line.TheVariants as lines
use Rattle.scenario_lines.specs.Names.{air_kind, event_kind, op_kind}
use Rattle.scenario_lines.specs.LineForm.{HasForm, IsEvent, IsHappening, IsLine, IsLinkForm, IsRound, IsSelection}
use Rattle.scenario_lines.specs.Spelling.{event_fields, happening_fields, line_fields, link_fields, op_fields, other_fields, round_fields, select_fields, tag_spec_fields, keyword_of}
use Rattle.scenario_lines.proofs.Filled.{air_word_is, event_word_is, locks_is, bits_are, number_text, one_word_is, op_word_is, password_is, rule_text_is, sel_text_is, several_text_is, keyword_text_is, version_text_is, words_is}
use Rattle.wire_text.proofs.CommandFieldTexts.{Texts, bank_is, bit_is, code_is, flag_is, mask_bank_is, no_more, only, payload_is, side_is, with}

link_texts : (link : LinkValue) → IsLinkForm link → Texts (link_fields link)
link_texts link form =
    with _ _ (number_text link.tari (omega arith)) (with _ _ (number_text link.rtcal (omega arith)) (with _ _ (number_text link.trcal (omega arith))
    (with _ _ (number_text link.pw (omega arith)) (with _ _ (bit_is link.dr) (with _ _ (code_is link.code) (only _ (bit_is link.trext)))))))

tag_texts : (tag : TagSpec) → Texts (tag_spec_fields tag)
tag_texts tag =
    with _ _ (password_is tag.image.kill) (with _ _ (password_is tag.image.access) (with _ _ (locks_is tag.locks) (with _ _ (words_is tag.image.epc)
    (with _ _ (words_is tag.image.tid) (with _ _ (words_is tag.image.user) (only _ (words_is tag.words)))))))

event_texts : (event : Event) (tag : ℕ) → IsEvent event tag → Texts (event_fields event tag)
event_texts (events.Expire flag) tag is = with _ _ (flag_is flag) (only _ (number_text tag (omega (arith, is.place))))
event_texts event tag is = only _ (number_text tag (omega (arith, is.place)))

happening_texts : (happening : Happening) → IsHappening happening → Texts (happening_fields happening)
happening_texts (happenings.Event event tag) is = event_texts event tag is
happening_texts (happenings.Miss tag) is = only _ (number_text tag (omega (arith, is)))
happening_texts (happenings.Choice (choices.Pick reply)) is = only _ (number_text reply (omega (arith, is)))
happening_texts (happenings.Choice choices.Silent) is = no_more
happening_texts (happenings.Choice (choices.Break place)) is = only _ (number_text place (omega (arith, is)))
happening_texts (happenings.Choice (choices.Raw levels)) is = only _ (bits_are levels)

select_texts : (selection : Selection) → IsSelection selection → Texts (select_fields selection)
select_texts selection is =
    with _ _ (flag_is selection.target) (with _ _ (number_text selection.action (omega (arith, is.action))) (with _ _ (mask_bank_is selection.bank)
    (with _ _ (number_text selection.pointer (omega (arith, is.pointer))) (only _ (bits_are selection.mask)))))

round_texts : (version : Version) (spec : SpecValue) → IsRound version spec → Texts (round_fields version spec)
round_texts version spec is =
    with _ _ (sel_text_is spec.sel is.named) (with _ _ (number_text spec.session (omega (arith, is.legal.session))) (with _ _ (side_is spec.target)
    (with _ _ (number_text spec.q (omega (arith, is.legal.q))) (with _ _ (rule_text_is version spec.rule is.legal.rule is.spelled)
    (only _ (number_text spec.limit (omega (arith, is.legal.limit))))))))

op_texts : (op : Op) → IsLegalOp op → Texts (op_fields op)
op_texts (ops.Read bank pointer count) is =
    with _ _ (bank_is bank) (with _ _ (number_text pointer (omega (arith, is.0))) (only _ (number_text count (omega (arith, is.1)))))
op_texts (ops.Write bank pointer keyword) is =
    with _ _ (bank_is bank) (with _ _ (number_text pointer (omega (arith, is.0))) (only _ (one_word_is keyword)))
op_texts (ops.BlockWrite bank pointer words) is =
    with _ _ (bank_is bank) (with _ _ (number_text pointer (omega (arith, is.0))) (only _ (words_is words)))
op_texts (ops.BlockErase bank pointer count) is =
    with _ _ (bank_is bank) (with _ _ (number_text pointer (omega (arith, is.0))) (only _ (number_text count (omega (arith, is.2)))))
op_texts (ops.Lock payload) is = only _ (payload_is payload)
op_texts (ops.Access password) is = only _ (password_is password)
op_texts (ops.Kill password) is = only _ (password_is password)

pub other_texts : (line : Line) → HasForm line → Texts (other_fields line)
other_texts (lines.Version version) form = only _ (version_text_is version)
other_texts (lines.Link link) form = link_texts link form
other_texts (lines.Default several) form = only _ (several_text_is several)
other_texts (lines.Tag tag) form = tag_texts tag
other_texts (lines.Copies count tag) form = with _ _ (number_text count (omega (arith, form.0.1))) (tag_texts tag)
other_texts (lines.Air exchange happening) form =
    with _ _ (number_text exchange (omega (arith, form.0.1))) (with _ _ (air_word_is (air_kind happening)) (happening_texts happening form.1))
other_texts (lines.Select selection) form = select_texts selection form
other_texts lines.Nak form = no_more
other_texts (lines.Event event tag) form = with _ _ (event_word_is (event_kind event)) (event_texts event tag form)
other_texts (lines.Round version spec) form = round_texts version spec form
other_texts (lines.Only epc) form = only _ (words_is epc)
other_texts (lines.Op op) form = with _ _ (op_word_is (op_kind op)) (op_texts op form)
other_texts lines.End form = no_more

pub line_texts : (line : Line) → IsLine line → All IsFieldText (line_fields line)
line_texts line is = All-cons IsFieldText _ (other_fields line) (keyword_text_is (keyword_of line)) (other_texts line is.form).are
