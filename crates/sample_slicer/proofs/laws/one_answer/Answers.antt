use Rattle.sample_slicer.proofs.Samples.{same_answer}
use Rattle.sample_slicer.proofs.SomeAnswer.{some_answer}
use Rattle.sample_slicer.proofs.laws.one_answer.Goals as goal

pub returns : goal.returns
returns c = record { some = some_answer; one = same_answer }
