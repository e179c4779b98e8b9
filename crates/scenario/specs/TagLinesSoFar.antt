-- Profile: how many tags the lines of a scenario have named so far.
use Rattle.std.specs.Prelude.{◌≤◌, List, length}
use Rattle.scenario_lines.specs.declared.version.Version.TheVariants.{Two}
use Rattle.scenario.specs.declared.values.TagGroup.{TagGroup}
use Rattle.scenario.specs.Groups.{tags_of}
use Rattle.scenario.specs.Limits.{most_tags_of}

-- the tag lines so far name no more tags than the limits allow, and each names one or more
pub record AreFewTagLines (groups : List TagGroup) : Type 0 where
  pub lines : length groups ≤ length (tags_of groups)
  pub tags : length (tags_of groups) ≤ most_tags_of Two
