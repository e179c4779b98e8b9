use Rattle.runs.proofs.PortalRounds.{plain-of, plain-steps, portals-played}
use Rattle.runs.proofs.rounds.portal_rounds_are_played.Goals as goal

pub returns : goal.returns
returns c = λ scenario is portals.
    portals-played scenario (plain-of scenario portals) (plain-steps 2 scenario.steps (c.scenario_steps_are_legal.ensures scenario is) portals.turns)
