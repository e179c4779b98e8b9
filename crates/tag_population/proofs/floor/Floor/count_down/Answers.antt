use Rattle.std.proofs.Common.{◌∙◌, ap, length, List, Option}
use Rattle.std.proofs.lemmas.List.{length-map}
use Rattle.tag_population.proofs.SeatedTags.{counted_is}
use Rattle.tag_population.specs.Participation.{counted_down}
use Rattle.tag_population.specs.declared.participation.Participation.{Participation}
use Rattle.tag_population.proofs.floor.Floor.count_down.Goals as goal

pub invariant_of-self : goal.invariant_of-self
invariant_of-self c = record {
  few = c.self.invariant.few;
  whole = ap (λ (l : List (Option Participation)). length l) c.count_down.ensures.counted ∙ length-map c.self.inside.waiting (counted_down c.args.session) ∙ c.self.invariant.whole;
  legal = c.self.invariant.legal;
  slots = c.count_down.ensures.slots;
}

pub returns : goal.returns
returns c = counted_is c.args.session c.self.inside.waiting c.count_down.new.self c.self.inside.seats.items c.args.self.now c.self.view_is c.count_down.ensures.counted
