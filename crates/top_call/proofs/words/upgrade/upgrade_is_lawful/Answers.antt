use Rattle.scenario.specs.Upgraded.{upgraded}
use Rattle.scenario.specs.ScenarioText.{scenario_text}
use Rattle.top_call.proofs.RunEnds.{same_of_scenario, same_refusal, text_not_refused}
use Rattle.top_call.proofs.UpgradeEnds.{proves}
use Rattle.top_call.proofs.words.upgrade.upgrade_is_lawful.Goals as goal

pub returns : goal.returns
returns c = record {
  one_text = λ bytes one other left right.
      same_of_scenario c.scenarios_are_told_apart.ensures (λ scenario. scenario_text (upgraded scenario)) bytes one other
      (left.scenario, left.legal, left.spelled) (right.scenario, right.legal, right.spelled) left.upgrade right.upgrade;
  one_fault_line = same_refusal c.texts_have_one_fault.ensures;
  allowed = λ bytes text writes. (writes.scenario, writes.legal, writes.spelled);
  not_refused = text_not_refused c.scenario_texts_are_not_faulty.ensures;
  unread = λ unread bytes text refused. absurd (cc);
  kept = proves c.scenarios_are_told_apart.ensures c.upgraded_scenarios_are_legal.ensures c.upgraded_scenarios_run_the_same.ensures.report;
}
