use Rattle.scenario.proofs.Groups.{legal_tags}
use Rattle.scenario.proofs.copies_and_upgrades.copies_are_tags.Goals as goal

pub returns : goal.returns
returns c = legal_tags
