use Rattle.air_world.proofs.Names.{sym, ◌∙◌, ap, seen_counts}
use Rattle.air_world.proofs.Listings.{pairs-skipped, frame-untold}
use Rattle.air_world.proofs.seen_listener.SeenListenerListener.wants_frames.Goals as goal

pub returns : goal.returns
returns g c = λ is first lines line of hears. (
  hears.0,
  c.wants_frames.ensures is first.report.now lines line of hears.1,
  λ fresh enough. hears.2 fresh enough ∙ ap seen_counts (sym (pairs-skipped lines line (frame-untold line of))),
)
