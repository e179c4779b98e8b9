use Rattle.access_ops.proofs.NextOperation.{does-access, does-kill}
use Rattle.access_ops.proofs.op_run.OpRun.begin_operation.Goals as goal

pub returns-in-Access-clause-does : goal.returns-in-Access-clause-does
returns-in-Access-clause-does c = λ list. rw (c.ask_for_number-in-Access.ensures.run, c.ask_for_number-in-Access.ensures.send, c.in-Access.is) (does-access list c.args.self.now _)

pub returns-in-Kill-clause-does : goal.returns-in-Kill-clause-does
returns-in-Kill-clause-does c = λ list. rw (c.ask_for_number-in-Kill.ensures.run, c.ask_for_number-in-Kill.ensures.send, c.in-Kill.is) (does-kill list c.args.self.now _)
