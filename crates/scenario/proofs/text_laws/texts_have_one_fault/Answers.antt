-- The law is one of all texts of lines.
use Rattle.checked_lines.specs.laws.OneOutcome.{one_fault}
use Rattle.scenario.specs.Faults.{scenario_rules}
use Rattle.scenario.proofs.Reasons.{unambiguous}
use Rattle.scenario.proofs.text_laws.texts_have_one_fault.Goals as goal

pub returns : goal.returns
returns c = one_fault scenario_rules (unambiguous c.line_laws.ensures)
