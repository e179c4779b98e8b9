use Rattle.made_runs.proofs.Legal.{made-legal}
use Rattle.made_runs.proofs.making.made_scenario.Goals as goal

pub returns-clause-legal : goal.returns-clause-legal
returns-clause-legal c = rw (c.made_link.ensures, c.in_ok-made_groups.ensures, c.in_ok-made_steps.ensures, c.new-2.ensures, c.new.ensures.items) (made-legal c.args.seed c.args.tags c.requires)
