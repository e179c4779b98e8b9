-- The stream of the reply's bits is written, with the handle that is expected.
use Rattle.std.proofs.Common.{ap, ◌∙◌, refl, inl, inr}
use Rattle.std.proofs.lemmas.Bool.Decides.{not_from_Decides}
use Rattle.std.proofs.lemmas.Result.{on_ok_weaker}
use Rattle.bit_strings.specs.BitString.{BitString}
use Rattle.line_code.specs.Stream.{stream_of}
use Rattle.reply_wire.specs.Codes.{table_of}
use Rattle.reply_grammar.specs.Replies.{spelling}
use Rattle.encode_lines.proofs.encoder.Encoder.encode_heard.Goals as goal

pub returns-then-not-is_allowed : goal.returns-then-not-is_allowed
returns-then-not-is_allowed c =
    let none = not_from_Decides _ c.is_allowed.ensures c.if-not-is_allowed.true in
    on_ok_weaker c.push_reply_refusal.result (λ line. record { answer = _; right = inr (none, refl); line = line }) c.push_reply_refusal.ensures

pub returns : goal.returns
returns c =
    let bits = ap (λ (b : BitString). b.items) c.encode_reply.ensures.bits ∙ ap (λ handle. spelling c.args.reply.now handle) c.handle_of.ensures in
    let levels = c.stream.ensures ∙ ap (stream_of (table_of c.args.code) c.args.trext) bits in
    let allowed = c.is_allowed.ensures.0 c.if-not-is_allowed.false in
    on_ok_weaker c.push_heard.result (λ line. record { answer = _; right = inl (allowed, refl); line = (rw levels at line) }) c.push_heard.ensures
