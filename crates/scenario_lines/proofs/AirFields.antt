-- The fields of an air line.
use Rattle.std.proofs.Common.{◌≡◌, ◌≢◌, ◌<◌, ◌^◌, ℕ, List, [], ◌∷◌, arith}
use Rattle.std.specs.Fmt.{decimal}
use Rattle.air_events.specs.declared.Event.{Event}
use Rattle.air_events.specs.declared.Event.TheVariants as events
use Rattle.air_events.specs.declared.Choice.TheVariants as choices
use Rattle.text_fields.specs.Binary.{binary}
use Rattle.wire_text.specs.CommandText.{flag_word}
use Rattle.scenario_lines.specs.declared.keywords.Keyword.TheVariants as keywords
use Rattle.scenario_lines.specs.declared.keywords.AirKind.{AirKind}
use Rattle.scenario_lines.specs.declared.line.Happening.{Happening}
use Rattle.scenario_lines.specs.declared.line.Happening.TheVariants as happenings
use Rattle.scenario_lines.specs.Names.{air_field_count, air_kind, air_word, event_field_count, event_kind}
use Rattle.scenario_lines.specs.LineForm.{IsEvent, IsHappening}
use Rattle.scenario_lines.specs.Spelling.{event_fields, happening_fields}
use Rattle.scenario_lines.specs.LineFaults.{HasShape}
use Rattle.text_fields.specs.NamedFields.{AreFilled}
use Rattle.text_fields.proofs.FilledFields.{none_filled, one_more}
use Rattle.wire_text.proofs.CommandFieldTexts.{flag_is}
use Rattle.scenario_lines.specs.Reading.{IsHappeningText}
use Rattle.scenario_lines.proofs.Filled.{bits_are, number_text}

one_number_filled : (n : ℕ) → n < 2 ^ 32 → AreFilled 1 (decimal n ∷ [])
one_number_filled n small = one_more 0 (decimal n) [] (number_text n small).filled none_filled

pub event_filled : (event : Event) (tag : ℕ) → IsEvent event tag → AreFilled (event_field_count (event_kind event)) (event_fields event tag)
event_filled (events.Expire flag) tag is =
    one_more 1 (flag_word flag) (decimal tag ∷ []) (flag_is flag).filled (one_number_filled tag (omega (arith, is.place)))
event_filled event tag is = one_number_filled tag (omega (arith, is.place))

-- what is said of an exchange has its fields
pub happening_filled : (happening : Happening) → IsHappening happening → AreFilled (air_field_count (air_kind happening)) (happening_fields happening)
happening_filled (happenings.Event event tag) is = event_filled event tag is
happening_filled (happenings.Miss tag) is = one_number_filled tag (omega (arith, is))
happening_filled (happenings.Choice (choices.Pick reply)) is = one_number_filled reply (omega (arith, is))
happening_filled (happenings.Choice choices.Silent) is = none_filled
happening_filled (happenings.Choice (choices.Break place)) is = one_number_filled place (omega (arith, is))
happening_filled (happenings.Choice (choices.Raw levels)) is = one_more 0 (binary levels) [] (bits_are levels).filled none_filled

-- an air line whose fields are read behind its kind has its shape
pub air_shape : (field kind : List ℕ) (rest : List (List ℕ)) (known : AirKind) (happening : Happening) → field ≢ [] → kind ≡ air_word known
    → IsHappeningText known rest happening → HasShape keywords.Air (field ∷ kind ∷ rest)
air_shape field kind rest known happening filled is text =
    let count = rw (← text.spelling, text.same_kind) at (happening_filled happening text.in_range) in
    (filled, known, is, count)
