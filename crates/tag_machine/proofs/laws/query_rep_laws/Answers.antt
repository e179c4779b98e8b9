use Rattle.tag_machine.proofs.QueryRepLaws.{waits, answers_in_slot, silent_beyond, other_rep, other_adjust}
use Rattle.tag_machine.proofs.laws.query_rep_laws.Goals as goal

pub returns-clause-waits : goal.returns-clause-waits
returns-clause-waits c = λ session q slot body later. waits session q slot body later

pub returns-clause-other_rep : goal.returns-clause-other_rep
returns-clause-other_rep c = λ session state body other. other_rep session state body other

pub returns-clause-other_adjust : goal.returns-clause-other_adjust
returns-clause-other_adjust c = λ session updn state body other. other_adjust session updn state body other

pub returns-clause-in_slot : goal.returns-clause-in_slot
returns-clause-in_slot c = λ session state body sent is. answers_in_slot session state body sent is

pub returns-clause-beyond : goal.returns-clause-beyond
returns-clause-beyond c = λ session state body beyond. silent_beyond session state body beyond
