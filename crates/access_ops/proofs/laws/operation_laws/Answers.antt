use Rattle.access_ops.proofs.OperationLaws.{commands-within, results-within, command-serves, last-result, whole-list, end-again, denied-each, denied-none, for-named}
use Rattle.access_ops.proofs.laws.operation_laws.Goals as goal

pub returns-clause-commands : goal.returns-clause-commands
returns-clause-commands c = commands-within

pub returns-clause-results : goal.returns-clause-results
returns-clause-results c = results-within

pub returns-clause-serves : goal.returns-clause-serves
returns-clause-serves c = command-serves

pub returns-clause-last : goal.returns-clause-last
returns-clause-last c = last-result

pub returns-clause-whole : goal.returns-clause-whole
returns-clause-whole c = whole-list

pub returns-clause-end : goal.returns-clause-end
returns-clause-end c = end-again

pub returns-clause-denied : goal.returns-clause-denied
returns-clause-denied c = denied-each

pub returns-clause-only : goal.returns-clause-only
returns-clause-only c = denied-none

pub returns-clause-named : goal.returns-clause-named
returns-clause-named c = for-named
