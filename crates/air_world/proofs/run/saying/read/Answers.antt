use Rattle.air_world.proofs.Names.{List, Bool, ◌++◌, ◌∙◌, ap, sym, subst, AnswersExpected, IsSomeAnd, expect_of}
use Rattle.bit_strings.specs.BitString.{BitString}
use Rattle.air_world.proofs.run.saying.read.Goals as goal

pub returns-clause-reply : goal.returns-clause-reply
returns-clause-reply c = λ sent is bits.
    let put = ap (λ (b : BitString). b.items) c.put_all_reserved.ensures ∙ ap (λ (b : BitString). b.items ++ c.args.answer.now) c.clear.ensures ∙ bits in
    c.reply_to.ensures is.state sent.reply
    (subst (λ (read : List Bool). IsSomeAnd (expect_of c.args.command.now is.state) (λ it. AnswersExpected sent.reply it read)) (sym put) is.answers)
