-- Profile: the air that a run begins on.
use Rattle.std.specs.Prelude.{◌<◌, ◌≤◌, []}
use Rattle.air_channel.specs.Air.{AirValue}
use Rattle.air_model.specs.Past.{Start}
use Rattle.scenario.specs.declared.values.TagGroup.{TagGroup}
use Rattle.scenario_lines.specs.TagForm.{IsTag, epc_length}

-- the air at the start: no exchange was made on it
abbrev pub new_air : Start → AirValue
new_air start = record { link = start.link; several = start.several; tags = start.tags; frame = []; stream = []; answers = []; exchanges = 0 }

-- a group of tags of a scenario of some version
pub record IsGroupOfTags (group : TagGroup) : Type 0 where
  pub some : 1 ≤ group.count
  pub tag : IsTag group.spec
  pub differ : 1 < group.count → 1 ≤ epc_length group.spec
