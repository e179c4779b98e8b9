-- What the channel gives in an exchange, by the fields that spell it.
use Rattle.air_events.specs.declared.Choice.{Choice}
use Rattle.air_events.specs.declared.Choice.TheVariants as choices
use Rattle.scenario_lines.specs.declared.choice.ChoiceFields.{ChoiceFields}
use Rattle.scenario_lines.specs.declared.choice.ChoiceFields.TheVariants as fields

-- what the channel gives by these fields
abbrev pub choice_of : ChoiceFields → Choice
choice_of (fields.Pick reply) = choices.Pick reply
choice_of fields.Silent = choices.Silent
choice_of (fields.Break place) = choices.Break place
choice_of (fields.Raw levels) = choices.Raw levels
