use Rattle.top_call.proofs.PortalNames.{◌≡◌, ◌+◌, drop, first_refused, lines_of_steps, Version}
use Rattle.top_call.proofs.portal_faults.step_fault.Given as goal

abbrev pub invariant-loop-step : goal.invariant-loop-step
invariant-loop-step l = record {
  number : l.number ≡ l.fn.before + l.step-index;
  rest : (version : Version) → first_refused (l.number + 1) l.next (lines_of_steps version (drop l.step-index l.steps)) ≡ first_refused (l.fn.before + 1) 2 (lines_of_steps version l.steps);
}
