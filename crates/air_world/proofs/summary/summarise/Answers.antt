use Rattle.air_world.proofs.Counted.{summary-counted}
use Rattle.air_world.proofs.summary.summarise.Goals as goal

pub returns-in-Ok-clause-counts : goal.returns-in-Ok-clause-counts
returns-in-Ok-clause-counts c =
    summary-counted c.round_laws.ensures.limit c.args.scenario.now c.tell_scenario.new.report.summary c.requires c.in-Ok.ensures.told
