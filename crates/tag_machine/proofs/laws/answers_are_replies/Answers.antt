use Rattle.tag_machine.proofs.ExpectedReplies.{sent_expected}
use Rattle.tag_machine.proofs.StepFacts.{step_facts}
use Rattle.tag_machine.proofs.laws.answers_are_replies.Goals as goal

pub returns-clause-reply : goal.returns-clause-reply
returns-clause-reply c = λ command state body sent before is. (((step_facts command state body).sent sent is).fits before).0

pub returns-clause-legal : goal.returns-clause-legal
returns-clause-legal c = λ command state body sent before is. (((step_facts command state body).sent sent is).fits before).1

pub returns-clause-preamble : goal.returns-clause-preamble
returns-clause-preamble c = λ command state body sent is. ((step_facts command state body).sent sent is).marked

pub returns-clause-expected : goal.returns-clause-expected
returns-clause-expected c = λ command state body sent before is. sent_expected command state body sent before is
