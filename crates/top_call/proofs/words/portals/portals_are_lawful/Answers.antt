use Rattle.top_call.specs.PortalText.{portals_text}
use Rattle.runs.specs.PortalHistories.{portals_told}
use Rattle.top_call.proofs.RunEnds.{same_of_scenario}
use Rattle.top_call.proofs.PortalEnds.{portals_not_refused, proves_portals, same_refusals}
use Rattle.top_call.proofs.words.portals.portals_are_lawful.Goals as goal

pub returns : goal.returns
returns c = record {
  one_text = λ bytes one other left right.
      same_of_scenario c.scenarios_are_told_apart.ensures (λ scenario. portals_text (portals_told scenario)) bytes one other
      (left.of.scenario, left.of.legal, left.of.spelled) (right.of.scenario, right.of.legal, right.of.spelled) left.lines right.lines;
  one_fault_line = same_refusals c.scenarios_are_told_apart.ensures c.texts_have_one_fault.ensures c.scenario_texts_are_not_faulty.ensures;
  allowed = λ bytes text writes. writes.of;
  not_refused = portals_not_refused c.scenarios_are_told_apart.ensures c.scenario_texts_are_not_faulty.ensures;
  unread = λ unread bytes text refused. absurd (cc);
  kept = proves_portals c.portal_scenarios.ensures c.portals_are_independent.ensures;
}
