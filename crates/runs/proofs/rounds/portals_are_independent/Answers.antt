use Rattle.runs.proofs.PortalRounds.{plain-steps, portals-independent}
use Rattle.runs.proofs.rounds.portals_are_independent.Goals as goal

pub returns : goal.returns
returns c = λ scenario is portals quiet.
    portals-independent scenario portals (plain-steps 2 scenario.steps (c.scenario_steps_are_legal.ensures scenario is) portals.turns) quiet
