use Rattle.std.proofs.Common.{Some, None, refl, sym}
use Rattle.tag_population.specs.TagSets.{bit_in_set}
use Rattle.tag_population.proofs.SlotPlaces.{part_is, place_within, waits_nowhere}
use Rattle.tag_population.proofs.participation.Waiting.waits_in.Goals as goal

pub place-requires : goal.place-requires
place-requires c = place_within c.self.inside.bases c.self.inside.called c.self.inside.wheel c.args.self.now c.args.number c.self.view_is c.requires

pub returns-in-Some : goal.returns-in-Some
returns-in-Some c =
    rw (part_is c.self.inside.bases c.self.inside.called c.self.inside.wheel c.args.self.now c.args.number (Some c.in-Some.place) c.self.invariant.1 c.self.view_is c.in-Some.ensures.value, c.from.ensures, c.get.ensures.value) refl

pub returns-in-None : goal.returns-in-None
returns-in-None c =
    rw (part_is c.self.inside.bases c.self.inside.called c.self.inside.wheel c.args.self.now c.args.number None c.self.invariant.1 c.self.view_is c.in-None.ensures.value)
    (sym (waits_nowhere c.self.inside.bases (bit_in_set c.self.inside.called c.args.number) c.args.session))
