-- The lines of two portals, or the line of the first fault.
use Rattle.std.proofs.Common.{◌∙◌, inl, sym}
use Rattle.top_call.specs.declared.forms.Form.TheVariants.{Portals}
use Rattle.top_call.specs.words.Portals.{portals_job}
use Rattle.top_call.proofs.PortalEnds.{portal_refused, portals_written}
use Rattle.top_call.proofs.Ends.{ends_so}
use Rattle.top_call.proofs.words.portals.write_portals.Goals as goal

pub returns-in-None : goal.returns-in-None
returns-in-None g c =
    ends_so portals_job c.args.input.now _ _ _ _ c.write_text.ensures
    (portals_written c.args.input.now c.as_bytes.result.now c.in-Ok.scenario c.in-Ok.ensures.ok (sym c.portal_fault.ensures ∙ c.in-None.is)
    (c.as_bytes.ensures.value ∙ c.in_ok-text-in-None.ensures))

pub returns-in-Ok : goal.returns-in-Ok
returns-in-Ok g c =
    ends_so portals_job c.args.input.now _ _ _ _ c.write_text-in-Some.ensures
    (rw c.as_slice.ensures.value (portal_refused c.args.input.now c.fault_line-line.result.items
    c.in-Ok.scenario c.in-Some.number c.in-Ok.ensures.ok (sym c.portal_fault.ensures ∙ c.in-Some.is) c.fault_line-line.ensures))

pub returns : goal.returns
returns g c = c.write_refusal.ensures Portals c.args.input.now _ c.in-Err.ensures.refused (λ line refuses. inl refuses)
