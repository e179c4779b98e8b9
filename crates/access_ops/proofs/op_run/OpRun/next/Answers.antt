use Rattle.std.proofs.Common.{◌∙◌, ap, sym}
use Rattle.access_ops.specs.OpRunValue.{OpRunValue}
use Rattle.access_ops.specs.declared.stage.Stage.TheVariants.{Number, Last}
use Rattle.access_ops.proofs.NextOperation.{next-at}
use Rattle.access_ops.proofs.op_run.OpRun.next.Goals as goal

pub returns-in-Last-clause-next : goal.returns-in-Last-clause-next
returns-in-Last-clause-next c = λ epc rn moves s given.
    next-at _ c.args.self.now _ c.args.list.now epc rn moves _ Last (ap (λ (run : OpRunValue). run.stage) (sym c.self.view_is) ∙ c.in-Last.is) s given (c.end_operation.ensures.does c.args.list.now)

pub returns-in-Number-clause-next : goal.returns-in-Number-clause-next
returns-in-Number-clause-next c = λ epc rn moves s given.
    next-at _ c.args.self.now _ c.args.list.now epc rn moves _ (Number c.in-Number.purpose) (ap (λ (run : OpRunValue). run.stage) (sym c.self.view_is) ∙ c.in-Number.is) s given c.take_number.ensures.does
