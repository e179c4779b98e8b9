use Rattle.std.proofs.Common.{◌≡◌, ◌∙◌, Some, None, ap, get_or, refl}
use Rattle.tag_population.specs.TagSets.{bit_in_set}
use Rattle.tag_population.specs.Participation.{slot_place}
use Rattle.tag_population.specs.declared.participation.Participation.{Participation}
use Rattle.tag_population.specs.declared.participation.Participation.TheVariants.{Called}
use Rattle.tag_population.proofs.SlotPlaces.{Placing, Putting, are_slots, place_within, placing_called, placing_nowhere, placing_so, placing_within, put_called, put_so}
use Rattle.tag_population.proofs.participation.Waiting.put.Goals.{After-slot_place, After-insert}
use Rattle.tag_population.proofs.participation.Waiting.put.Goals as goal

-- a tag that waits
abbrev placing : (c : After-slot_place) → Placing c.self.inside.bases c.self.inside.called c.self.inside.wheel c.args.self.now
placing c = record {
  based = c.self.invariant.0;
  are = c.self.invariant.1;
  released = c.release.new.self;
  same = c.self.view_is;
  number = c.args.number;
  within = c.requires.number;
  none = c.release.ensures.part;
  part = c.args.participation;
  session = c.in-Some-Waits.session;
  slot = c.in-Some-Waits.slot;
  place = c.slot_place.result;
  is = c.in-Some-Waits.is ∙ ap (λ (p : Participation). Some p) (rw c.in-Some-Waits.is at c.in-Some-Waits.field-0-is);
  legal = c.requires.legal;
  there = c.slot_place.ensures ∙ ap (λ n. slot_place (get_or c.self.inside.bases n 0) c.in-Some-Waits.session c.in-Some-Waits.slot) c.from.ensures;
}

pub put-requires-clause-number : goal.put-requires-clause-number
put-requires-clause-number c = placing_within c.self.inside.bases c.self.inside.called c.self.inside.wheel c.args.self.now (placing (goal.at.put-requires-clause-number c).After-slot_place)

pub put-requires-clause-nowhere : goal.put-requires-clause-nowhere
put-requires-clause-nowhere c = placing_nowhere c.self.inside.bases c.self.inside.called c.self.inside.wheel c.args.self.now (placing (goal.at.put-requires-clause-nowhere c).After-slot_place)

pub invariant_of-self : goal.invariant_of-self
invariant_of-self c =
    (c.self.invariant.0, rw c.put.ensures (placing_called c.self.inside.bases c.self.inside.called c.self.inside.wheel c.args.self.now (placing (goal.at.invariant_of-self c).After-slot_place)))

pub returns-in-Some-Waits-clause-participations : goal.returns-in-Some-Waits-clause-participations
returns-in-Some-Waits-clause-participations c =
    rw c.put.ensures
    (placing_so c.self.inside.bases c.self.inside.called c.self.inside.wheel c.args.self.now (placing (goal.at.returns-in-Some-Waits-clause-participations c).After-slot_place))

pub returns-in-Some-Waits-clause-slots : goal.returns-in-Some-Waits-clause-slots
returns-in-Some-Waits-clause-slots c = are_slots c.self.inside.bases c.self.inside.called c.put.new.self _ refl

-- a tag that is called
abbrev calling : (c : After-insert) → Putting c.self-in-Some-Called.inside.bases c.self-in-Some-Called.inside.called c.self-in-Some-Called.inside.wheel c.args.self.now
calling c = record {
  are = c.self-in-Some-Called.invariant.1;
  same = c.self-in-Some-Called.view_is;
  number = c.args.number;
  within = c.requires.number;
  stand = None;
  after = c.insert.new.self;
  others = c.insert.ensures.others;
  lone = λ one. refl;
}

pub take-requires : goal.take-requires
take-requires c =
    place_within c.self-in-Some-Called.inside.bases c.self-in-Some-Called.inside.called c.self-in-Some-Called.inside.wheel c.args.self.now c.args.number c.self-in-Some-Called.view_is c.requires.number

pub invariant_of-self-in-Some-Called : goal.invariant_of-self-in-Some-Called
invariant_of-self-in-Some-Called c = (
  c.self-in-Some-Called.invariant.0,
  rw c.take.ensures.places
      (put_called c.self-in-Some-Called.inside.bases c.self-in-Some-Called.inside.called c.self-in-Some-Called.inside.wheel c.args.self.now
      (calling (goal.at.invariant_of-self-in-Some-Called c).After-insert)),
)

pub returns-in-Some-Called-clause-participations : goal.returns-in-Some-Called-clause-participations
returns-in-Some-Called-clause-participations c =
    let is : c.args.participation ≡ Some Called = c.in-Some-Called.is ∙ ap (λ (p : Participation). Some p) (rw c.in-Some-Called.is at c.in-Some-Called.field-0-is) in
    let one : bit_in_set c.insert.new.self c.args.number ≡ 1 = c.insert.ensures.there in
    rw c.take.ensures.places
    (put_so c.self-in-Some-Called.inside.bases c.self-in-Some-Called.inside.called c.self-in-Some-Called.inside.wheel c.args.self.now
    (calling (goal.at.returns-in-Some-Called-clause-participations c).After-insert) c.args.participation (rw (one, is) refl))

pub returns-in-Some-Called-clause-slots : goal.returns-in-Some-Called-clause-slots
returns-in-Some-Called-clause-slots c = are_slots c.self-in-Some-Called.inside.bases c.insert.new.self c.take.new.self _ refl

pub returns-in-None-clause-slots : goal.returns-in-None-clause-slots
returns-in-None-clause-slots c = c.release-in-None.ensures.slots
