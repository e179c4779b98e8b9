-- Profile: what a field says, as a value of an object.
use Rattle.std.specs.Prelude.{◌≡◌, ℕ, ◌^◌, nat_lt, ◌&&◌, List, [], codes, bytes_eq, Option, Some, None, if◌then◌else◌}
use Rattle.std.specs.Str.{is_utf8}
use Rattle.std.specs.Fmt.{decimal}
use Rattle.std.specs.Str.Parse.{digits_value}
use Rattle.serde_json.specs.Data.{Data, null, number, string, unsigned}
use Rattle.text_fields.specs.Hexadecimal.{hex_words}
use Rattle.epc_sgtin.specs.SgtinValue.{SgtinValue}
use Rattle.epc_sgtin.specs.Epc.{IsSgtin}
use Rattle.epc_sgtin.specs.Uri.{uri_of}

-- the number of 64 bits that a field spells in decimal digits, without leading zeros, if it spells one
abbrev pub number_in : List ℕ → Option ℕ
number_in field =
    if bytes_eq field (decimal (digits_value 10 field)) && nat_lt (digits_value 10 field) (2 ^ 64) then Some (digits_value 10 field) else None

-- a number, or null
abbrev pub number_value : Option ℕ → Data
number_value None = null
number_value (Some n) = number (unsigned n)

-- the text that a field of a line says, where a hyphen stands for the empty text
abbrev pub without_hyphen : List ℕ → List ℕ
without_hyphen field = if bytes_eq field (codes "-") then [] else field

-- a text as a value: null where its bytes are none
abbrev pub text_value : List ℕ → Data
text_value field = if is_utf8 (without_hyphen field) then string (without_hyphen field) else null

-- the field is the words of this SGTIN-96
pub record IsEpcOf (sgtin : SgtinValue) (field : List ℕ) : Type 0 where
  pub words : List ℕ
  pub spelled : field ≡ hex_words words
  pub epc : IsSgtin sgtin words

-- the URI of the SGTIN-96 whose words a field is, or none where it is those of none
abbrev pub IsUriIn : List ℕ → Option (List ℕ) → Type 0
IsUriIn field (Some uri) = (sgtin : SgtinValue) × IsEpcOf sgtin field × (uri ≡ uri_of sgtin)
IsUriIn field None = (sgtin : SgtinValue) → ¬ IsEpcOf sgtin field

-- the URI in each field
abbrev pub AreUris : (List ℕ → Option (List ℕ)) → Type 0
AreUris uris = (field : List ℕ) → IsUriIn field (uris field)
