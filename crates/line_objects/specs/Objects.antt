-- Profile: the object of a line: its fields as members, in their order, with the kind of the line; and the objects of the lines of a text.
use Rattle.std.specs.Prelude.{◌≡◌, ℕ, List, [], ◌∷◌, ◌++◌, codes, Option, Some, None}
use Rattle.serde_json.specs.Data.{Data, object}
use Rattle.serde_json.specs.Written.{compact_text}
use Rattle.report_lines.specs.JsonLines.{members_in}
use Rattle.text_fields.specs.Lines.{fields_of, line_feed, lines_of}
use Rattle.line_objects.specs.MemberNames.{key_name, key_shape}
use Rattle.line_objects.specs.LineMembers.{keys_behind, line_keys}
use Rattle.line_objects.specs.Values.{AreUris, number_in, number_value, text_value}
use Rattle.line_objects.specs.declared.member_names.Key.{Key}
use Rattle.line_objects.specs.declared.member_names.Key.TheVariants as keys
use Rattle.line_objects.specs.declared.member_names.Shape.{Shape}
use Rattle.line_objects.specs.declared.member_names.Shape.TheVariants.{Number, Text, EpcText, PlaceOrReason, Joint}
use Rattle.line_objects.specs.declared.line_members.LineSet.{LineSet}

-- a name with its value
abbrev pub Pair : Type 0
Pair = List ℕ × Data

-- the URI of an EPC, where it has one
abbrev pub uri_pairs : Option (List ℕ) → List Pair
uri_pairs None = []
uri_pairs (Some uri) = (codes "uri", text_value uri) ∷ []

-- a place where the field is a number, and else a reason
abbrev pub place_or_reason : List ℕ → Option ℕ → Pair
place_or_reason field None = (codes "reason", text_value field)
place_or_reason field (Some n) = (codes "place", number_value (Some n))

-- what a field says, by the shape and the name of its member; the URI stands behind an EPC that has one
abbrev pub shaped_pairs : (uris : List ℕ → Option (List ℕ)) → Shape → (name field : List ℕ) → List Pair
shaped_pairs uris Number name field = (name, number_value (number_in field)) ∷ []
shaped_pairs uris Text name field = (name, text_value field) ∷ []
shaped_pairs uris EpcText name field = (name, text_value field) ∷ uri_pairs (uris field)
shaped_pairs uris PlaceOrReason name field = place_or_reason field (number_in field) ∷ []
shaped_pairs uris Joint name field = []

-- what a field says, by its member
abbrev pub field_pairs : (uris : List ℕ → Option (List ℕ)) → Key → List ℕ → List Pair
field_pairs uris key field = shaped_pairs uris (key_shape key) (key_name key) field

-- what is said where a field isn't there: the value of an operation is empty then, as in the report's own objects
abbrev pub absent_pairs : Key → List Pair
absent_pairs keys.Value = (codes "value", text_value []) ∷ []
absent_pairs key = []

-- what fields say, by their members
abbrev pub fields_pairs : (uris : List ℕ → Option (List ℕ)) → List (List ℕ) → List Key → List Pair
fields_pairs uris fields [] = []
fields_pairs uris [] (key ∷ others) = absent_pairs key
fields_pairs uris (field ∷ fields) (key ∷ others) = field_pairs uris key field ++ fields_pairs uris fields (keys_behind key field others)

-- the kind of a line: its first field
abbrev pub kind_pair : List ℕ → Pair
kind_pair word = (codes "kind", text_value word)

-- the members of a line with this first field: its kind and what the other fields say. The number of a line stands first.
abbrev pub pairs_behind : (uris : List ℕ → Option (List ℕ)) → (word : List ℕ) → List (List ℕ) → List Key → List Pair
pairs_behind uris word (field ∷ fields) (keys.Line ∷ others) =
    (key_name keys.Line, number_value (number_in field)) ∷ kind_pair word ∷ fields_pairs uris fields others
pairs_behind uris word fields keys = kind_pair word ∷ fields_pairs uris fields keys

-- the members of a line with these fields
abbrev pub line_pairs : (uris : List ℕ → Option (List ℕ)) → LineSet → List (List ℕ) → List Pair
line_pairs uris set [] = []
line_pairs uris set (word ∷ fields) = pairs_behind uris word fields (line_keys set word)

-- the object of a line, in compact form, with its line feed
abbrev pub object_of : (uris : List ℕ → Option (List ℕ)) → LineSet → List ℕ → List ℕ
object_of uris set line = compact_text (object (members_in (line_pairs uris set (fields_of line)))) ++ line_feed ∷ []

-- the objects of these lines, but of what stands behind the last line feed
abbrev pub objects_of : (uris : List ℕ → Option (List ℕ)) → LineSet → List (List ℕ) → List ℕ
objects_of uris set [] = []
objects_of uris set (last ∷ []) = []
objects_of uris set (line ∷ next ∷ lines) = object_of uris set line ++ objects_of uris set (next ∷ lines)

-- the text is the objects of the lines of another
pub record AreObjectsOf (set : LineSet) (plain text : List ℕ) : Type 0 where
  pub uris : List ℕ → Option (List ℕ)
  pub right : AreUris uris
  pub objects : text ≡ objects_of uris set (lines_of plain)
