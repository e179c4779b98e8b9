use Rattle.air_world.proofs.Names.{◌≡◌, map, take, scenario_tag, tags_of, tag_value_of}
use Rattle.air_world.proofs.start.tags_at_start.Given as goal

-- the tags so far
abbrev pub invariant-loop-group : goal.invariant-loop-group
invariant-loop-group l = map tag_value_of l.tags.items ≡ map scenario_tag (tags_of (take l.group-index l.groups))
