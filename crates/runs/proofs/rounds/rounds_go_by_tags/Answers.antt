use Rattle.runs.proofs.PlainRounds.{goes-by-tags}
use Rattle.runs.proofs.rounds.rounds_go_by_tags.Goals as goal

pub returns : goal.returns
returns c = λ start operations spec past plain none legal between. goes-by-tags c.round_laws.ensures.limit start operations spec past plain none legal between
