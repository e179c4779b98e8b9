use Rattle.air_world.proofs.Names.{counts-more, uncounted}
use Rattle.air_world.proofs.summary.CountingListener.wants_exchanges.Goals as goal

pub returns : goal.returns
returns c = λ is first lines line of counts.
    counts-more lines first.summary c.args.self.now.summary c.args.self.now.summary line counts (λ fits. uncounted c.args.self.now.summary line of)
