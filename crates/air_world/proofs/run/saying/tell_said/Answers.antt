use Rattle.air_world.proofs.Names.{◌∷◌, map, refl, sym, ◌∙◌, subst, AnswersCommand, Command, ExchangeLine, MissedLine, answer_line, AreReplies}
use Rattle.air_world.proofs.Passing.{tells-same, tells-then}
use Rattle.air_world.proofs.Saying.{said-skipped}
use Rattle.air_world.proofs.run.saying.tell_said.Goals as goal

pub returns-then-not-wants_exchanges-clause-told : goal.returns-then-not-wants_exchanges-clause-told
returns-then-not-wants_exchanges-clause-told g c = λ link sent behind number command entry.
    said-skipped g.R.Listener.hears c.args.report.now link sent (λ first lines line of heard. c.if-not-wants_exchanges.ensures refl first lines line of heard)

pub returns-clause-told : goal.returns-clause-told
returns-clause-told g c = λ link sent behind number command entry.
    tells-then (tells-same (λ i. ExchangeLine (number i) (command i) ∷ map (MissedLine (number i)) (entry i).missed) c.tell_command.ensures)
    (tells-then
    (tells-same (λ i. map (answer_line (number i)) sent.replies)
    (c.tell_answers.ensures.told sent.replies (c.answers.ensures ∙ behind.answers) (subst (λ (own : Command). AreReplies (AnswersCommand own) sent.replies) (sym command) behind.answered)))
    (c.tell_given.ensures.told link sent behind number command))
