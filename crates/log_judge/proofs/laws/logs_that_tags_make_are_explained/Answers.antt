use Rattle.log_judge.proofs.OneVerdict.{made_is_explained}
use Rattle.log_judge.proofs.laws.logs_that_tags_make_are_explained.Goals as goal

pub returns : goal.returns
returns c = λ tag words deeds drawn. made_is_explained tag words deeds drawn
