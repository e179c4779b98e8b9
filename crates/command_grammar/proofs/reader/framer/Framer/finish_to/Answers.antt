use Rattle.command_grammar.proofs.reader.framer.Framer.finish_to.Goals as goal

pub returns-clause-only : goal.returns-clause-only
returns-clause-only c = rw (← c.self.view_is) (λ bits command stands spells. c.finish.ensures.only bits command stands spells)
