use Rattle.pie_line.proofs.Frames.{frame-one}
use Rattle.pie_line.proofs.FrameAnswers.{one-answer}
use Rattle.pie_line.proofs.laws.one_answer.Goals as goal

pub returns : goal.returns
returns c = record { one = one-answer; frame = frame-one }
