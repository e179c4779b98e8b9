use Rattle.std.proofs.Common.{◌∙◌, sym}
use Rattle.tag_population.specs.TagSets.{bit_in_set}
use Rattle.tag_population.proofs.SlotPlaces.{part_is, place_within, takes_part_called, takes_part_there}
use Rattle.tag_population.proofs.participation.Waiting.takes_part.Goals as goal

pub place-requires : goal.place-requires
place-requires c = place_within c.self.inside.bases c.self.inside.called c.self.inside.wheel c.args.self.now c.args.number c.self.view_is c.requires

pub returns-then-is_some : goal.returns-then-is_some
returns-then-is_some c =
    let part = part_is c.self.inside.bases c.self.inside.called c.self.inside.wheel c.args.self.now c.args.number c.place.result c.self.invariant.1 c.self.view_is c.place.ensures.value in
    rw part (c.if-is_some.true ∙ sym (takes_part_there c.self.inside.bases (bit_in_set c.self.inside.called c.args.number) c.place.result (sym c.is_some.ensures ∙ c.if-is_some.true)))

pub returns-else-is_some : goal.returns-else-is_some
returns-else-is_some c =
    let part = part_is c.self.inside.bases c.self.inside.called c.self.inside.wheel c.args.self.now c.args.number c.place.result c.self.invariant.1 c.self.view_is c.place.ensures.value in
    rw part
    (takes_part_called c.self.inside.bases (bit_in_set c.self.inside.called c.args.number) c.place.result c.contains.result (sym c.is_some.ensures ∙ c.if-is_some.false) c.contains.ensures)
