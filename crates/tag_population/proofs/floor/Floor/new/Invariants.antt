use Rattle.std.proofs.Common.{◌≤◌, vec_len, vec_capacity}
use Rattle.tag_population.proofs.SeatedTags.{Seating}
use Rattle.tag_population.proofs.floor.Floor.new.Given as goal

abbrev pub invariant-loop-tag : goal.invariant-loop-tag
invariant-loop-tag l = Seating l.fn.tags.items l.tag-iterator.rest.items l.seats.items l.waiting × (vec_len l.fn.tags ≤ vec_capacity l.seats)
