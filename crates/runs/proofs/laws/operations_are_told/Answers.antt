use Rattle.runs.proofs.HeadlineOperations.{report-tells}
use Rattle.runs.proofs.laws.operations_are_told.Goals as goal

pub returns : goal.returns
returns c = report-tells
