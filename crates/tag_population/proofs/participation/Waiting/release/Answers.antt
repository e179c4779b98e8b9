use Rattle.std.proofs.Common.{None, refl, sym}
use Rattle.tag_population.proofs.SlotPlaces.{are_slots, place_within, put_so, taken_part}
use Rattle.tag_population.proofs.participation.Waiting.release.Goals as goal

pub take-requires : goal.take-requires
take-requires c = place_within c.self.inside.bases c.self.inside.called c.self.inside.wheel c.args.self.now c.args.number c.self.view_is c.requires

pub returns-then-not-take-clause-part : goal.returns-then-not-take-clause-part
returns-then-not-take-clause-part c =
    rw c.take.ensures.places
    (put_so c.self.inside.bases c.self.inside.called c.self.inside.wheel c.args.self.now
    (record {
      are = c.self.invariant.1;
      same = c.self.view_is;
      number = c.args.number;
      within = c.requires;
      stand = None;
      after = c.remove.new.self;
      others = c.remove.ensures.others;
      lone = λ one. refl;
    }) None (rw c.remove.ensures.there refl))

pub returns-else-not-take-clause-part : goal.returns-else-not-take-clause-part
returns-else-not-take-clause-part c =
    rw c.take.ensures.places
    (put_so c.self.inside.bases c.self.inside.called c.self.inside.wheel c.args.self.now
    (record {
      are = c.self.invariant.1;
      same = c.self.view_is;
      number = c.args.number;
      within = c.requires;
      stand = None;
      after = c.self.inside.called;
      others = λ other apart. refl;
      lone = λ one. refl;
    }) None (taken_part c.self.inside.bases c.self.inside.called c.self.inside.wheel c.args.number c.self.invariant.1 (sym c.if-not-take.ensures.stood)))

pub returns-then-not-take-clause-slots : goal.returns-then-not-take-clause-slots
returns-then-not-take-clause-slots c = are_slots c.self.inside.bases c.remove.new.self c.take.new.self _ refl

pub returns-else-not-take-clause-slots : goal.returns-else-not-take-clause-slots
returns-else-not-take-clause-slots c = are_slots c.self.inside.bases c.self.inside.called c.take.new.self _ refl
