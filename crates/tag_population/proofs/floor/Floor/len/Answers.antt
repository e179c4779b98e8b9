use Rattle.std.proofs.Common.{◌∙◌, arith, sym}
use Rattle.tag_population.proofs.SeatedTags.{legal_tags, length-tags_of}
use Rattle.tag_population.proofs.floor.Floor.len.Goals as goal

pub returns-clause-count : goal.returns-clause-count
returns-clause-count c = rw (← c.self.view_is, length-tags_of c.self.inside.waiting c.self.inside.seats.items c.self.invariant.whole) (omega (arith, c.len.ensures))

pub returns-clause-whole : goal.returns-clause-whole
returns-clause-whole c = rw (← c.self.view_is) (c.self.invariant.whole ∙ sym (length-tags_of c.self.inside.waiting c.self.inside.seats.items c.self.invariant.whole))

pub returns-clause-few : goal.returns-clause-few
returns-clause-few c = rw (← c.self.view_is, length-tags_of c.self.inside.waiting c.self.inside.seats.items c.self.invariant.whole) c.self.invariant.few

pub returns-clause-legal : goal.returns-clause-legal
returns-clause-legal c = rw (← c.self.view_is) (legal_tags c.self.inside.waiting c.self.inside.seats.items c.self.invariant.slots c.self.invariant.legal)
