use Rattle.command_grammar.proofs.SpellingLaws.{one_refusal}
use Rattle.command_grammar.proofs.laws.one_refusal.Goals as goal

pub returns : goal.returns
returns c = one_refusal
