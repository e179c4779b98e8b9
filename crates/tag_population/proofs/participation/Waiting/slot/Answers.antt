use Rattle.std.proofs.Common.{◌∙◌, Option, Some, None, ap, refl, sym}
use Rattle.tag_population.specs.TagSets.{bit_in_set}
use Rattle.tag_population.specs.Participation.{waiting_slot}
use Rattle.tag_population.specs.declared.participation.Participation.{Participation}
use Rattle.tag_population.proofs.SlotPlaces.{no_slot, part_is, place_within}
use Rattle.tag_population.proofs.participation.Waiting.slot.Goals as goal

pub place-requires : goal.place-requires
place-requires c = place_within c.self.inside.bases c.self.inside.called c.self.inside.wheel c.args.self.now c.args.number c.self.view_is c.requires

pub returns-in_err-place-clause-value : goal.returns-in_err-place-clause-value
returns-in_err-place-clause-value c =
    let part = part_is c.self.inside.bases c.self.inside.called c.self.inside.wheel c.args.self.now c.args.number None c.self.invariant.1 c.self.view_is c.in_err-place.ensures.value in
    c.from_residual.ensures ∙ sym (ap (λ (p : Option Participation). waiting_slot p) part ∙ no_slot c.self.inside.bases (bit_in_set c.self.inside.called c.args.number))

pub returns-clause-value : goal.returns-clause-value
returns-clause-value c =
    let part = part_is c.self.inside.bases c.self.inside.called c.self.inside.wheel c.args.self.now c.args.number (Some c.in_ok-place.place) c.self.invariant.1 c.self.view_is c.in_ok-place.ensures.value in
    rw (part, c.from-base.ensures) refl
