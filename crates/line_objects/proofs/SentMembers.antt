-- The members of an object, counted, and what is written for them.
use Rattle.std.proofs.Common.{◌≡◌, ◌||◌, ℕ, Bool, true, false, List, [], ◌∷◌, Option, Some, None, length, refl, ap₂, arith}
use Rattle.std.specs.Prelude.{if◌then◌else◌}
use Rattle.std.specs.Str.{is_utf8}
use Rattle.serde_json.proofs.FreeTexts.{text_of_value}
use Rattle.serde_json.specs.Data.{null, object, string}
use Rattle.serde_json.specs.Events.{members_len}
use Rattle.serde_json.specs.Written.{compact_text, has_float, members_have_float}
use Rattle.report_lines.specs.JsonLines.{members_in}
use Rattle.report_lines.specs.JsonObject.{IsJsonOf, SendsPairs}
use Rattle.line_objects.specs.Members.{pairs_of, data_of}
use Rattle.line_objects.specs.Values.{number_value, without_hyphen}
use Rattle.line_objects.specs.declared.members.Member.{Member}
use Rattle.line_objects.specs.declared.members.Value.{Value}
use Rattle.line_objects.specs.declared.members.Value.TheVariants as values

pub members_counted : (members : List Member) → length members ≡ members_len (members_in (pairs_of members))
members_counted [] = refl
members_counted (member ∷ members) = omega (arith, members_counted members)

number_no_float : (number : Option ℕ) → has_float (number_value number) ≡ false
number_no_float None = refl
number_no_float (Some n) = refl

chosen_no_float : (test : Bool) (text : List ℕ) → has_float (if test then string text else null) ≡ false
chosen_no_float true text = refl
chosen_no_float false text = refl

no_float : (value : Value) → has_float (data_of value) ≡ false
no_float (values.Number number) = number_no_float number
no_float (values.Text text) = chosen_no_float (is_utf8 (without_hyphen text.now)) (without_hyphen text.now)
no_float (values.Uri uri) = chosen_no_float (is_utf8 (without_hyphen uri)) (without_hyphen uri)

no_floats : (members : List Member) → members_have_float (members_in (pairs_of members)) ≡ false
no_floats [] = refl
no_floats (member ∷ members) = ap₂ (λ (one other : Bool). one || other) (no_float member.value) (no_floats members)

-- what is written for an object
pub written : (members : List Member) (bytes : List ℕ) → IsJsonOf (SendsPairs (pairs_of members)) bytes → bytes ≡ compact_text (object (members_in (pairs_of members)))
written members bytes is = text_of_value (object (members_in (pairs_of members))) is.0 bytes is.1 is.2 (no_floats members)
