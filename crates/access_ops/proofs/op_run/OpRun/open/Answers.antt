use Rattle.std.proofs.Common.{ap, arith}
use Rattle.access_ops.specs.OpRunValue.{OpRunValue}
use Rattle.access_ops.proofs.NextOperation.{does-open}
use Rattle.access_ops.proofs.op_run.OpRun.open.Goals as goal

pub returns-clause-does : goal.returns-clause-does
returns-clause-does c = rw (c.ask_for_number.ensures.run, c.ask_for_number.ensures.send)
    (does-open c.args.list.now c.args.self.now (omega (arith, c.if-self-len.false, c.len.ensures, ap (λ (run : OpRunValue). run.begun) c.self.view_is)))
