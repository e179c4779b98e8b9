use Rattle.runs.proofs.ListLines.{entries-listed}
use Rattle.runs.proofs.inventory.list_lines_are_of_listed_tags.Goals as goal

pub returns : goal.returns
returns c history round of = entries-listed round history of
