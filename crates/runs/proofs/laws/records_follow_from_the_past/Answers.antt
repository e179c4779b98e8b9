use Rattle.runs.proofs.MadeRecords.{made-record}
use Rattle.runs.proofs.laws.records_follow_from_the_past.Goals as goal

pub returns : goal.returns
returns c = made-record
