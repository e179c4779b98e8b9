use Rattle.air_audit.proofs.Names.{take, HasNoEventStep}
use Rattle.air_audit.proofs.scenario_and_trace.has_event_step.Given as goal

abbrev pub invariant-loop-step : goal.invariant-loop-step
invariant-loop-step l = HasNoEventStep (take l.step-index l.steps)
