use Rattle.air_world.proofs.Names.{◌≡◌, ◌++◌, map, scenario_tag, copies, tag_value_of}
use Rattle.air_world.proofs.start.push_group.Given as goal

-- the copies so far
abbrev pub invariant-loop-number : goal.invariant-loop-number
invariant-loop-number l = map tag_value_of l.tags.items ≡ map tag_value_of l.fn.tags.items ++ map scenario_tag (copies l.number l.group.spec)
