use Rattle.tag_machine.proofs.ReplyRanges.{sent_answers, sent_is_expected}
use Rattle.tag_machine.proofs.laws.answers_are_expected.Goals as goal

pub returns-clause-some : goal.returns-clause-some
returns-clause-some c = λ sent is. sent_is_expected sent is

pub returns-clause-each : goal.returns-clause-each
returns-clause-each c = λ sent expect is suits carries. sent_answers sent expect is suits carries
