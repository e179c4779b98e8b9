-- Profile: what holds of a field of which some bits were read: its numbers are within their ranges. And at which bits a run ends.
use Rattle.std.specs.Prelude.{◌≡◌, ◌≢◌, ℕ, ◌+◌, ◌≤◌, Bool, length, IsSome}
use Rattle.command_grammar.specs.declared.reader.fields.Fields.{Fields}
use Rattle.command_grammar.specs.reading.FieldStages.{width_of}
use Rattle.command_grammar.specs.declared.reader.field_in_progress.NumberField.{NumberField}
use Rattle.command_grammar.specs.declared.reader.field_in_progress.NumberField.TheVariants as number_fields
use Rattle.command_grammar.specs.declared.reader.field_in_progress.TripleFront.TheVariants.{Nothing}
use Rattle.command_grammar.specs.declared.reader.field_in_progress.Stage.{Stage}
use Rattle.command_grammar.specs.declared.reader.field_in_progress.Stage.TheVariants as stages
use Rattle.command_grammar.specs.declared.reader.field_in_progress.Next.{Next}
use Rattle.command_grammar.specs.declared.reader.field_in_progress.Next.TheVariants as next

-- how many bits the number has that is read next
abbrev pub number_bits : Stage → ℕ
number_bits (stages.Number field) = width_of field
number_bits other = 0

-- words that are still to come have room
abbrev pub IsSoundNumber : NumberField → Fields → Type 0
IsSoundNumber (number_fields.FirstWord left) v = left + 1 ≤ 255
IsSoundNumber (number_fields.Word left) v = length v.words + left + 1 ≤ 255
IsSoundNumber other v = Unit {0}

-- what was read of a field is in its range, and what is still to come has room
abbrev pub AreFieldsInRange : Stage → Fields → Type 0
AreFieldsInRange (stages.Number field) v = IsSoundNumber field v
AreFieldsInRange (stages.Mask behind) v = length v.mask + behind + 1 ≤ 255
AreFieldsInRange other v = Unit {0}

-- behind a bit of a field that goes on, what was read of the field is in its range, and what is still to come has room
abbrev pub IsSoundNext : Next → Fields → Type 0
IsSoundNext (next.Stay stage) v = AreFieldsInRange stage v
IsSoundNext other v = Unit {0}

-- the bit isn't of a number, nor inside a mask, nor the first one of two or three: it ends them, is refused, or stands elsewhere
abbrev pub IsEdge : Stage → Bool → Type 0
IsEdge (stages.Number field) bit = ⊥
IsEdge (stages.Mask behind) bit = behind ≡ 0
IsEdge (stages.Pair field first) bit = IsSome first
IsEdge (stages.Triple field front) bit = front ≢ Nothing
IsEdge other bit = Unit {0}
