use Rattle.tag_machine.proofs.expectation.expected_reply_to.Goals as goal

pub returns : goal.returns
returns c = λ answer is. c.reply_laws.ensures.one_reply _ _ _ answer c.in-Ok.ensures.ok (rw c.in-Some.is at is)
