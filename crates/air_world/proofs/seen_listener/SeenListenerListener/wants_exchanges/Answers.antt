use Rattle.air_world.proofs.Names.{sym, ◌∙◌, ap, seen_counts}
use Rattle.air_world.proofs.Listings.{pairs-skipped, said-untold}
use Rattle.air_world.proofs.seen_listener.SeenListenerListener.wants_exchanges.Goals as goal

pub returns : goal.returns
returns g c = λ is first lines line of hears. (
  hears.0,
  c.wants_exchanges.ensures is first.report.now lines line of hears.1,
  λ fresh enough. hears.2 fresh enough ∙ ap seen_counts (sym (pairs-skipped lines line (said-untold line of))),
)
