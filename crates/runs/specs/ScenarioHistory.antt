-- Profile: what the run of a scenario begins with.
use Rattle.std.specs.Prelude.{List, map}
use Rattle.air_model.specs.Past.{Start, Item}
use Rattle.scenario.specs.declared.values.Scenario.{Scenario}
use Rattle.scenario.specs.Groups.{tags_of}
use Rattle.scenario_lines.specs.declared.tag.TagSpec.{TagSpec}
use Rattle.tag_machine.specs.TagValue.{TagValue}
use Rattle.tag_machine.specs.Events.{tag_of_image}
use Rattle.runs.specs.History.{history_of}

-- a tag as a scenario gives it: ready, with the flags of a new tag, no draw made, and StoredCRC computed
abbrev pub scenario_tag : TagSpec → TagValue
scenario_tag tag = tag_of_image tag.image tag.locks tag.words

-- The tags are those of the groups, spelled out in order; where several tags reply and nothing is chosen, the channel gives what the
-- scenario says. The version has no part in it.
abbrev pub start_of : Scenario → Start
start_of scenario = record {
  link = scenario.link;
  tags = map scenario_tag (tags_of scenario.groups);
  entries = scenario.entries;
  several = scenario.several;
}

-- the one history of a scenario
abbrev pub history : Scenario → List Item
history scenario = history_of (start_of scenario) scenario.steps
