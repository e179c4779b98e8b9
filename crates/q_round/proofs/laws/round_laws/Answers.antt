use Rattle.q_round.proofs.RoundLaws.{slots-within, q-in-range, quiet-frame, rep-frame, frame-front}
use Rattle.q_round.proofs.SlotLaws.{slots-underway, slots-over, next-underway, next-over}
use Rattle.q_round.proofs.laws.round_laws.Goals as goal

pub returns-clause-limit : goal.returns-clause-limit
returns-clause-limit c = slots-within

pub returns-clause-range : goal.returns-clause-range
returns-clause-range c = q-in-range

pub returns-clause-quiet : goal.returns-clause-quiet
returns-clause-quiet c = quiet-frame

pub returns-clause-rep : goal.returns-clause-rep
returns-clause-rep c = rep-frame

pub returns-clause-frame : goal.returns-clause-frame
returns-clause-frame c = frame-front

pub returns-clause-underway : goal.returns-clause-underway
returns-clause-underway c = slots-underway

pub returns-clause-over : goal.returns-clause-over
returns-clause-over c = slots-over

pub returns-clause-next_slot : goal.returns-clause-next_slot
returns-clause-next_slot c = next-underway

pub returns-clause-next_end : goal.returns-clause-next_end
returns-clause-next_end c = next-over
