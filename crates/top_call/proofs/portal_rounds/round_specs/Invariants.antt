use Rattle.top_call.proofs.PortalNames.{◌≡◌, take, specs_of}
use Rattle.top_call.proofs.portal_rounds.round_specs.Given as goal

abbrev pub invariant-loop-step : goal.invariant-loop-step
invariant-loop-step l = l.specs.items ≡ specs_of (take l.step-index l.steps)
