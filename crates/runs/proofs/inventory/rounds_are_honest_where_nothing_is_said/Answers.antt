use Rattle.runs.proofs.MadeRecords.{honest-exchanges, honest-run}
use Rattle.runs.proofs.inventory.rounds_are_honest_where_nothing_is_said.Goals as goal

pub returns-clause-exchanges : goal.returns-clause-exchanges
returns-clause-exchanges c = honest-exchanges c.records_follow_from_the_past.ensures

pub returns-clause-run : goal.returns-clause-run
returns-clause-run c = honest-run c.records_follow_from_the_past.ensures
