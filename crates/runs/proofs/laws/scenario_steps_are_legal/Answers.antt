use Rattle.runs.proofs.HeadlineLegal.{legal-steps}
use Rattle.runs.proofs.laws.scenario_steps_are_legal.Goals as goal

pub returns : goal.returns
returns c = legal-steps
