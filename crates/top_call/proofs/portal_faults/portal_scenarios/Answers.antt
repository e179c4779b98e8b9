use Rattle.top_call.proofs.PortalsRefused.{of-portals}
use Rattle.top_call.proofs.portal_faults.portal_scenarios.Goals as goal

pub returns : goal.returns
returns c = of-portals
