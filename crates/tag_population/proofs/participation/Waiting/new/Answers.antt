use Rattle.std.proofs.Common.{rules}
use Rattle.tag_population.proofs.SlotPlaces.{none_called, none_takes_part}
use Rattle.tag_population.proofs.participation.Waiting.new.Goals as goal

pub returns : goal.returns
returns c = rw c.in_ok-wheel.ensures (none_takes_part c.args.count _ c.in_ok-called.called c.in_ok-called.ensures)

pub invariant_of-result : goal.invariant_of-result
invariant_of-result c = (search rules, rw c.in_ok-wheel.ensures (none_called c.args.count c.in_ok-called.called c.requires c.in_ok-called.ensures))
