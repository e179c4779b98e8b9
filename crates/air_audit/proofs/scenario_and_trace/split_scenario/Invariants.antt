use Rattle.air_audit.proofs.Names.{length}
use Rattle.air_audit.proofs.Behind.{CutSoFar}
use Rattle.air_audit.proofs.scenario_and_trace.split_scenario.Given as goal

abbrev pub invariant-loop-line : goal.invariant-loop-line
invariant-loop-line l = CutSoFar l.input l.rest

abbrev pub decreases-loop-line : goal.decreases-loop-line
decreases-loop-line l = length l.rest
