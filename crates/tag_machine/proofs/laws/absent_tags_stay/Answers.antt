use Rattle.tag_machine.proofs.AbsentTags.{absent}
use Rattle.tag_machine.proofs.laws.absent_tags_stay.Goals as goal

pub returns : goal.returns
returns c = λ command state body gone. absent command state body gone
