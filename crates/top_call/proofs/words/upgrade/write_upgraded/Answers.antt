-- The text of version 2, or the line of the first fault.
use Rattle.std.proofs.Common.{◌∙◌, ap}
use Rattle.scenario.specs.ScenarioText.{scenario_text}
use Rattle.top_call.specs.declared.forms.Form.TheVariants.{Upgrade}
use Rattle.top_call.specs.words.Upgrade.{upgrade_job}
use Rattle.top_call.proofs.Ends.{ends_so}
use Rattle.top_call.proofs.words.upgrade.write_upgraded.Goals as goal

pub returns-in_ok-text-in-Ok : goal.returns-in_ok-text-in-Ok
returns-in_ok-text-in-Ok g c =
    let read = c.in-Ok.ensures.ok in
    let printed = c.as_slice.ensures ∙ c.in_ok-text-in-Ok.ensures ∙ ap scenario_text c.upgrade-upgraded.ensures.same in
    ends_so upgrade_job c.args.input.now _ _ _ _ c.write_text.ensures (record { scenario = c.in-Ok.scenario; legal = read.0; spelled = read.1; upgrade = printed })

pub returns-in-Err : goal.returns-in-Err
returns-in-Err g c = c.write_refusal.ensures Upgrade c.args.input.now _ c.in-Err.ensures.refused (λ line refuses. refuses)
