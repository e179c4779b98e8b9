use Rattle.q_round.proofs.RoundFacts.{facts}
use Rattle.q_round.proofs.laws.round_facts.Goals as goal

pub returns : goal.returns
returns c = facts
