use Rattle.air_audit.proofs.Names.{sym, ◌∙◌}
use Rattle.air_audit.proofs.Words.{rx-only, tx-only}
use Rattle.air_audit.proofs.trace_line_words.word_of_line.Goals as goal

pub returns-clause-tx : goal.returns-clause-tx
returns-clause-tx c = λ is. sym c.first_field.ensures ∙ tx-only c.first_field.result.now (sym c.word_of.ensures ∙ is)

pub returns-clause-rx : goal.returns-clause-rx
returns-clause-rx c = λ is. sym c.first_field.ensures ∙ rx-only c.first_field.result.now (sym c.word_of.ensures ∙ is)
