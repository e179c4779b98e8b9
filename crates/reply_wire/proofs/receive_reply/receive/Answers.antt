use Rattle.std.proofs.Common.{◌≡◌, ◌∙◌, Bool, List, ap, inl, inr, refl, sym, subst, true≢false}
use Rattle.line_code.specs.Stream.{Streams}
use Rattle.line_code.specs.Refusal.{RefusesStream}
use Rattle.line_code.specs.declared.refusal.LineRefusal.{LineRefusal}
use Rattle.reply_wire.specs.Codes.{table_of}
use Rattle.reply_grammar.specs.Replies.{AnswersExpected}
use Rattle.reply_grammar.specs.declared.expected.Reply.{Reply}
use Rattle.reply_grammar.specs.declared.expected.Received.{Received}
use Rattle.reply_grammar.specs.declared.expected.Received.TheVariants.{Whole, Refused}
use Rattle.reply_grammar.specs.laws.Passing.{answers_pass}
use Rattle.reply_grammar.proofs.Replies.{one_reply, passes_apart}
use Rattle.reply_wire.specs.Received.{IsReceived, IsWhole, IsUnexpected}
use Rattle.reply_wire.proofs.ReceivedLaws.{same_received}
use Rattle.reply_wire.proofs.receive_reply.receive.Goals as goal

pub returns-in-Ok-take_whole-clause-only : goal.returns-in-Ok-take_whole-clause-only
returns-in-Ok-take_whole-clause-only c = λ answer is.
    let taken = c.in-Ok-take_whole.ensures.whole in
    let whole : IsWhole (table_of c.args.code) c.args.trext c.args.expect.now c.args.stream.now.items taken.0 =
    record { bits = c.decode_levels.new.out.items; stream = c.in-Ok.ensures.ok; answers = taken.2 } in
    taken.1 ∙ same_received c.args.code c.args.trext c.args.expect.now c.args.stream.now.items (Whole taken.0) answer whole is

pub returns-in-Err-clause-only : goal.returns-in-Err-clause-only
returns-in-Err-clause-only c = λ answer is.
    let unexpected : IsUnexpected (table_of c.args.code) c.args.trext c.args.expect.now c.args.stream.now.items c.len.result =
    record { bits = c.decode_levels.new.out.items; stream = c.in-Ok.ensures.ok; refusal = c.in-Err.field-0; faults = c.in-Err.ensures.refused; behind = c.len.ensures.count } in
    same_received c.args.code c.args.trext c.args.expect.now c.args.stream.now.items (Refused c.len.result) answer (inr (inr unexpected)) is

pub returns-in-Err-Invalid-clause-only : goal.returns-in-Err-Invalid-clause-only
returns-in-Err-Invalid-clause-only c = λ answer is.
    let bad = subst (λ (r : LineRefusal). RefusesStream (Streams (table_of c.args.code) c.args.trext) c.args.stream.now.items r) c.in-Err-Invalid.field-0-is c.in-Err-Invalid.ensures.refused in
    same_received c.args.code c.args.trext c.args.expect.now c.args.stream.now.items (Refused c.in-Err-Invalid.place) answer (inl bad) is

pub returns-in-Err-Unfinished-clause-only : goal.returns-in-Err-Unfinished-clause-only
returns-in-Err-Unfinished-clause-only c = λ answer is.
    let short = subst (λ (r : LineRefusal). RefusesStream (Streams (table_of c.args.code) c.args.trext) c.args.stream.now.items r) c.in-Err-Unfinished.field-0-is c.in-Err-Unfinished.ensures.refused in
    same_received c.args.code c.args.trext c.args.expect.now c.args.stream.now.items (Refused c.in-Err-Unfinished.count) answer (inr (inl short)) is

pub returns-in-Ok-take_whole-clause-flip : goal.returns-in-Ok-take_whole-clause-flip
returns-in-Ok-take_whole-clause-flip c = λ sent whole at stream below is. absurd (true≢false (sym (c.in-Ok.ensures.flip sent whole at stream below is)))

pub returns-in-Err-clause-flip : goal.returns-in-Err-clause-flip
returns-in-Err-clause-flip c = λ sent whole at stream below is. (c.len.result, refl)

pub returns-in-Err-Invalid-clause-flip : goal.returns-in-Err-Invalid-clause-flip
returns-in-Err-Invalid-clause-flip c = λ sent whole at stream below is. (c.in-Err-Invalid.place, refl)

pub returns-in-Err-Unfinished-clause-flip : goal.returns-in-Err-Unfinished-clause-flip
returns-in-Err-Unfinished-clause-flip c = λ sent whole at stream below is. (c.in-Err-Unfinished.count, refl)

pub returns-in-Ok-take_whole-clause-received : goal.returns-in-Ok-take_whole-clause-received
returns-in-Ok-take_whole-clause-received c =
    let taken = c.in-Ok-take_whole.ensures.whole in
    let whole : IsWhole (table_of c.args.code) c.args.trext c.args.expect.now c.args.stream.now.items taken.0 =
    record { bits = c.decode_levels.new.out.items; stream = c.in-Ok.ensures.ok; answers = taken.2 } in
    subst (λ (r : Received). IsReceived (table_of c.args.code) c.args.trext c.args.expect.now c.args.stream.now.items r) (sym taken.1) whole

pub returns-in-Ok-take_whole-clause-only_whole : goal.returns-in-Ok-take_whole-clause-only_whole
returns-in-Ok-take_whole-clause-only_whole c = λ reply sent stream answers.
    let taken = c.in-Ok-take_whole.ensures.whole in
    let same : c.decode_levels.new.out.items ≡ sent = (c.decode_levels.ensures.only sent stream).1 in (
      taken.1 ∙ ap (λ (r : Reply). Whole r) (one_reply taken.0 reply c.args.expect.now _ taken.2 (subst (λ (b : List Bool). AnswersExpected reply c.args.expect.now b) (sym same) answers)),
      same,
    )

pub returns-in-Ok-take_whole-clause-whole : goal.returns-in-Ok-take_whole-clause-whole
returns-in-Ok-take_whole-clause-whole c = λ reply is.
    let taken = c.in-Ok-take_whole.ensures.whole in
    let both : ◌≡◌ {A = Received} (Whole taken.0) (Whole reply) = sym taken.1 ∙ is in
    let same : taken.0 ≡ reply = cc in
    (c.in-Ok.ensures.ok, subst (λ (r : Reply). AnswersExpected r c.args.expect.now c.decode_levels.new.out.items) same taken.2)

pub returns-in-Ok-take_whole-clause-refused : goal.returns-in-Ok-take_whole-clause-refused
returns-in-Ok-take_whole-clause-refused c = λ place is.
    let taken = c.in-Ok-take_whole.ensures.whole in
    let both : ◌≡◌ {A = Received} (Whole taken.0) (Refused place) = sym taken.1 ∙ is in
    absurd (cc)

pub returns-in-Err-clause-only_whole : goal.returns-in-Err-clause-only_whole
returns-in-Err-clause-only_whole c = λ reply sent stream answers.
    let same : c.decode_levels.new.out.items ≡ sent = (c.decode_levels.ensures.only sent stream).1 in
    let here : AnswersExpected reply c.args.expect.now c.decode_levels.new.out.items = subst (λ (b : List Bool). AnswersExpected reply c.args.expect.now b) (sym same) answers in
    absurd (passes_apart c.in-Err.field-0 c.args.expect.now c.decode_levels.new.out.items (answers_pass reply c.args.expect.now c.decode_levels.new.out.items here) c.in-Err.ensures.refused)
