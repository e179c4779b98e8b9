use Rattle.command_grammar.proofs.SpellingLaws.{some_outcome, one_outcome}
use Rattle.command_grammar.proofs.laws.one_outcome.Goals as goal

pub returns : goal.returns
returns c = record { some = some_outcome; one = one_outcome }
