use Rattle.std.proofs.Common.{ℕ, List, [], ◌∷◌, ◌++◌, true, false, ap, ◌∙◌}
use Rattle.std.specs.String.{string_bytes}
use Rattle.std.proofs.lemmas.Result.{on_ok_weaker}
use Rattle.text_fields.specs.Lines.{line_feed}
use Rattle.bench_lines.proofs.HeardAnswers.{answer_told, reply_heard}
use Rattle.bench_lines.proofs.probe_printing.push_answer_line.Goals as goal

pub expected_reply_to-requires : goal.expected_reply_to-requires
expected_reply_to-requires c = reply_heard c.requires.0 c.args.answered c.args.expect.now c.args.bits.now.items c.requires.1 (λ silent. cc)

pub expected_reply_to-requires-in-Extended : goal.expected_reply_to-requires-in-Extended
expected_reply_to-requires-in-Extended c = reply_heard c.requires.0 c.args.answered c.args.expect.now c.args.bits.now.items c.requires.1 (λ silent. cc)

pub returns-in-Plain : goal.returns-in-Plain
returns-in-Plain c = λ answer is.
    on_ok_weaker c.push_sent.result
    (λ written. written ∙ ap (λ (line : List ℕ). string_bytes c.args.text.now ++ (line ++ line_feed ∷ []))
    (answer_told answer false c.args.expect.now c.args.bits.now.items c.args.number c.expected_reply_to.new.reply (rw c.in-Plain.is at is) c.expected_reply_to.ensures))
    c.push_sent.ensures

pub returns-in-Extended : goal.returns-in-Extended
returns-in-Extended c = λ answer is.
    on_ok_weaker c.push_sent-in-Extended.result
    (λ written. written ∙ ap (λ (line : List ℕ). string_bytes c.args.text.now ++ (line ++ line_feed ∷ []))
    (answer_told answer true c.args.expect.now c.args.bits.now.items c.args.number c.expected_reply_to-in-Extended.new.reply (rw c.in-Extended.is at is) c.expected_reply_to-in-Extended.ensures))
    c.push_sent-in-Extended.ensures
