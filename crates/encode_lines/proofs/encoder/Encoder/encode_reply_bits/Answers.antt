-- The reply's bits are written with the handle that is expected.
use Rattle.std.proofs.Common.{ap, ◌∙◌, refl, inl, inr}
use Rattle.std.proofs.lemmas.Bool.Decides.{not_from_Decides}
use Rattle.std.proofs.lemmas.Result.{on_ok_weaker}
use Rattle.bit_strings.specs.BitString.{BitString}
use Rattle.reply_grammar.specs.Replies.{spelling}
use Rattle.encode_lines.proofs.encoder.Encoder.encode_reply_bits.Goals as goal

pub returns-then-not-is_allowed : goal.returns-then-not-is_allowed
returns-then-not-is_allowed c =
    let none = not_from_Decides _ c.is_allowed.ensures c.if-not-is_allowed.true in
    on_ok_weaker c.push_reply_refusal.result (λ line. record { answer = _; right = inr (none, refl); line = line }) c.push_reply_refusal.ensures

pub returns : goal.returns
returns c =
    let bits = ap (λ (b : BitString). b.items) c.encode_reply.ensures.bits ∙ ap (λ handle. spelling c.args.reply.now handle) c.handle_of.ensures in
    let allowed = c.is_allowed.ensures.0 c.if-not-is_allowed.false in
    on_ok_weaker c.push_reply_bits.result (λ line. record { answer = _; right = inl (allowed, refl); line = (rw bits at line) }) c.push_reply_bits.ensures
