use Rattle.runs.proofs.OnePast.{one-past}
use Rattle.runs.proofs.laws.events_and_records_determine_a_past.Goals as goal

pub returns : goal.returns
returns c = one-past
