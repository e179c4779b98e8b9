use Rattle.runs.proofs.OneRound.{is-quiet-round, lists-its-tags}
use Rattle.runs.proofs.rounds.rounds_list_their_tags.Goals as goal

pub returns-clause-senders : goal.returns-clause-senders
returns-clause-senders c = lists-its-tags

pub returns-clause-quiet : goal.returns-clause-quiet
returns-clause-quiet c = is-quiet-round
