use Rattle.runs.proofs.MadeRecords.{none-given, honest-given, raw-unsent}
use Rattle.runs.proofs.inventory.rounds_go_by_replies.Goals as goal

pub returns-clause-run : goal.returns-clause-run
returns-clause-run c = λ start taken round none sent earlier rn recorded same ack.
    none-given start sent earlier none (c.records_follow_from_the_past.ensures start taken sent earlier recorded)

pub returns-clause-honest : goal.returns-clause-honest
returns-clause-honest c = λ start taken round operations honest sent earlier rn recorded same ack.
    honest-given start sent earlier (c.records_follow_from_the_past.ensures start taken sent earlier recorded) (honest.unsaid sent earlier recorded same)

pub returns-clause-sender : goal.returns-clause-sender
returns-clause-sender c = raw-unsent
