use Rattle.std.proofs.Common.{sym}
use Rattle.top_call.proofs.PortalsRefused.{captured}
use Rattle.top_call.proofs.portal_faults.portal_fault.Goals as goal

pub returns-in-Capture : goal.returns-in-Capture
returns-in-Capture c = sym (captured c.args.scenario.now c.requires c.in-Capture.is)
