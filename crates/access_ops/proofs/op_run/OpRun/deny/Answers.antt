use Rattle.std.proofs.Common.{◌∙◌, ap, arith}
use Rattle.access_ops.specs.OpRunValue.{OpRunValue}
use Rattle.access_ops.proofs.NextOperation.{does-deny}
use Rattle.access_ops.proofs.op_run.OpRun.deny.Goals as goal

pub returns-clause-does : goal.returns-clause-does
returns-clause-does c = rw (← c.self.view_is) (does-deny c.args.list.now _ (ap (λ (run : OpRunValue). run.stage) c.self.view_is ∙ c.requires) (omega (arith, c.if-self-len.false, c.len.ensures)))
