-- The text of version 2, or the line of the first fault.
use Rattle.std.proofs.Common.{refl}
use Rattle.scenario.specs.Upgraded.{upgraded}
use Rattle.scenario.specs.ScenarioText.{scenario_text}
use Rattle.top_call.specs.words.Upgrade.{Upgrades}
use Rattle.top_call.proofs.RunEnds.{some_text}
use Rattle.top_call.proofs.words.upgrade.upgrade_inputs_have_a_text.Goals as goal

pub returns : goal.returns
returns c bytes =
    some_text (Upgrades bytes) bytes
    (λ spelled. (scenario_text (upgraded spelled.0), record { scenario = spelled.0; legal = spelled.1; spelled = spelled.2; upgrade = refl })) (c.texts_are_scenarios_or_faulty.ensures bytes)
