use Rattle.std.proofs.Common.{refl, ◌∙◌}
use Rattle.tag_population.proofs.SlotPlaces.{counted_all, are_slots}
use Rattle.tag_population.proofs.participation.Waiting.count_down.Goals as goal

pub returns-clause-counted : goal.returns-clause-counted
returns-clause-counted c =
    rw (← c.self.view_is)
    (counted_all c.self.inside.bases c.self.inside.called c.self.inside.wheel c.args.session c.from-at.result _ c.self.invariant.0 (c.from-at.ensures ∙ c.get.ensures.value) c.get.ensures.range
    (rw c.from.ensures refl))

pub returns-clause-slots : goal.returns-clause-slots
returns-clause-slots c = are_slots _ c.self.inside.called c.self.inside.wheel _ refl
