use Rattle.std.proofs.Common.{◌∙◌, ap, get_or}
use Rattle.tag_population.proofs.SlotPlaces.{due_there}
use Rattle.tag_population.specs.Participation.{slot_place}
use Rattle.tag_population.proofs.participation.Waiting.due.Goals as goal

pub returns : goal.returns
returns c =
    rw (← c.self.view_is, ← c.get-session.ensures.value)
    (due_there c.self.inside.bases c.self.inside.called c.self.inside.wheel c.get-session.result c.slot_place.result c.tag_on.result c.self.invariant.0 c.self.invariant.1
    (c.slot_place.ensures ∙ ap (λ n. slot_place (get_or c.self.inside.bases n 0) c.get-session.result 1) c.from.ensures) c.tag_on.ensures)
