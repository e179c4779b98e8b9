-- Members of an object, as names with their values.
use Rattle.std.specs.Prelude.{List, map}
use Rattle.serde_json.specs.Data.{Data}
use Rattle.line_objects.specs.Objects.{Pair}
use Rattle.line_objects.specs.Values.{number_value, text_value}
use Rattle.line_objects.specs.declared.members.Member.{Member}
use Rattle.line_objects.specs.declared.members.Value.{Value}
use Rattle.line_objects.specs.declared.members.Value.TheVariants as values

-- the value of a member, as JSON has it
abbrev pub data_of : Value → Data
data_of (values.Number number) = number_value number
data_of (values.Text text) = text_value text.now
data_of (values.Uri uri) = text_value uri

-- a member, as its name with its value
abbrev pub member_pair : Member → Pair
member_pair member = (member.name.now, data_of member.value)

-- the members of an object, in their order
abbrev pub pairs_of : List Member → List Pair
pairs_of members = map member_pair members
