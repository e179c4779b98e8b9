use Rattle.std.proofs.Common.{refl}
use Rattle.access_ops.proofs.OperationLaws.{command-expects}
use Rattle.access_ops.proofs.LegalCommands.{legal-next, cover-off, whole-password}
use Rattle.access_ops.proofs.laws.operation_commands.Goals as goal

pub returns-clause-legal : goal.returns-clause-legal
returns-clause-legal c = legal-next

pub returns-clause-short : goal.returns-clause-short
returns-clause-short c = λ list epc rn moves command expect extended legal word are next.
    c.spelling_laws.ensures.short command _ record { legal = legal-next list epc rn moves command expect extended legal word are next; spelled = refl }

pub returns-clause-expects : goal.returns-clause-expects
returns-clause-expects c = command-expects

pub returns-clause-uncovered : goal.returns-clause-uncovered
returns-clause-uncovered c = cover-off

pub returns-clause-halves : goal.returns-clause-halves
returns-clause-halves c = whole-password
