use Rattle.air_world.proofs.Names.{sym, ◌∙◌, subst, AnswersCommand, Command, AreReplies}
use Rattle.air_world.proofs.Saying.{gave-broken, gave-raw, gave-silence, gave-whole}
use Rattle.air_world.proofs.run.saying.gave_of.Goals as goal

pub returns-in-Silence-clause-gave : goal.returns-in-Silence-clause-gave
returns-in-Silence-clause-gave c = λ link sent behind command. gave-silence link sent.given (sym c.in-Silence.is ∙ behind.got_is)

pub returns-in-Whole-clause-gave : goal.returns-in-Whole-clause-gave
returns-in-Whole-clause-gave c = λ link sent behind command.
    gave-whole link sent.replies sent.given c.in-Whole.tag _ behind.one (sym c.in-Whole.is ∙ behind.got_is)
    (λ place replied at tag. c.reply_of.ensures.reply sent.replies place replied (c.answers.ensures ∙ behind.answers)
    (subst (λ (own : Command). AreReplies (AnswersCommand own) sent.replies) (sym command) behind.answered) behind.different at tag)

pub returns-in-Broken-clause-gave : goal.returns-in-Broken-clause-gave
returns-in-Broken-clause-gave c = λ link sent behind command. gave-broken link sent.given c.in-Broken.tag c.in-Broken.place (sym c.in-Broken.is ∙ behind.got_is)

pub returns-in-Raw-clause-gave : goal.returns-in-Raw-clause-gave
returns-in-Raw-clause-gave c = λ link sent behind command. gave-raw link sent.given (sym c.in-Raw.is ∙ behind.got_is)
