use Rattle.air_world.proofs.Listings.{hears-skipped, said-untold}
use Rattle.air_world.proofs.hall.PairListenerListener.wants_exchanges.Goals as goal

pub returns : goal.returns
returns c = λ is first lines line of hears. (hears.0, hears-skipped lines line first.heard.now c.args.self.now.heard.now (said-untold line of) hears.1)
