-- The verdict on the trace, or the line of the first fault of the scenario.
use Rattle.top_call.specs.declared.forms.Form.TheVariants.{Audit}
use Rattle.top_call.specs.words.Audit.{audit_job}
use Rattle.top_call.proofs.Ends.{ends_so}
use Rattle.top_call.proofs.words.audit.write_audited.Goals as goal

pub returns-in_ok-line-in-Ok : goal.returns-in_ok-line-in-Ok
returns-in_ok-line-in-Ok g c =
    ends_so audit_job c.args.input.now _ _ _ _ c.write_text.ensures
    (rw c.as_slice.ensures.value (record {
      scenario = c.in-Ok.scenario;
      legal = c.in-Ok.ensures.ok.0;
      spelled = rw c.split_scenario.ensures.scenario at c.in-Ok.ensures.ok.1;
      says = rw c.split_scenario.ensures.trace at c.in_ok-line-in-Ok.ensures;
    }))

pub returns-in-Err : goal.returns-in-Err
returns-in-Err g c = c.write_refusal.ensures Audit c.args.input.now _ (rw c.split_scenario.ensures.scenario at c.in-Err.ensures.refused) (λ line refuses. refuses)
