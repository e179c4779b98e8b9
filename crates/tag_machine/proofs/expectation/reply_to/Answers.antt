use Rattle.std.proofs.Common.{Option, subst}
use Rattle.std.specs.Option.{IsSomeAnd}
use Rattle.reply_grammar.specs.Replies.{AnswersExpected}
use Rattle.reply_grammar.specs.declared.expected.Expect.{Expect}
use Rattle.tag_machine.proofs.RepliesByLength.{read-by-length, tested-length}
use Rattle.tag_machine.proofs.expectation.reply_to.Goals as goal

pub returns-in-None : goal.returns-in-None
returns-in-None c = λ state reply answers.
    let found = read-by-length c.args.command.now state _ reply c.args.bits.now.items c.expectation_of.result (tested-length _ c.len.result c.len.ensures.count) c.expectation_of.ensures answers in
    absurd (subst (λ (o : Option Expect). IsSomeAnd o (λ it. AnswersExpected reply it c.args.bits.now.items)) c.in-None.is found)

pub returns-in-Some : goal.returns-in-Some
returns-in-Some c = λ state reply answers.
    let found = read-by-length c.args.command.now state _ reply c.args.bits.now.items c.expectation_of.result (tested-length _ c.len.result c.len.ensures.count) c.expectation_of.ensures answers in
    c.reply_in.ensures reply (subst (λ (o : Option Expect). IsSomeAnd o (λ it. AnswersExpected reply it c.args.bits.now.items)) c.in-Some.is found)
