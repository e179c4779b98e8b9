use Rattle.air_world.proofs.Listings.{hears-skipped, frame-untold}
use Rattle.air_world.proofs.hall.PairListenerListener.wants_frames.Goals as goal

pub returns : goal.returns
returns c = λ is first lines line of hears. (hears.0, hears-skipped lines line first.heard.now c.args.self.now.heard.now (frame-untold line of) hears.1)
