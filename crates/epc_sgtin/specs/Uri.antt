-- GS1 Tag Data Standard, EPC Tag URI: an SGTIN-96 as a text.
use Rattle.std.specs.Prelude.{◌≡◌, ℕ, zero, suc, ◌+◌, ◌-◌, ◌/◌, ◌%◌, List, [], ◌∷◌, ◌++◌, codes}
use Rattle.std.specs.List.{join_with_byte}
use Rattle.std.specs.Fmt.{decimal}
use Rattle.epc_sgtin.specs.SgtinValue.{SgtinValue, IsLegalSgtin, all_digits}

-- what each such text begins with
abbrev pub prefix : List ℕ
prefix = codes "urn:epc:tag:sgtin-96:"

-- the byte that joins the parts of the URI of an SGTIN
abbrev pub dot : ℕ
dot = 46

-- the last `width` decimal digits of a number, as bytes: those of its tenth part, and then the last one; so the number with
-- leading zeros, where it has no more digits
unfoldable pub padded : ℕ → ℕ → List ℕ
padded value zero = []
padded value (suc width) = padded (value / 10) width ++ (48 + value % 10) ∷ []

-- the parts behind the prefix: the filter, the company and the item with leading zeros, and the serial without
abbrev pub uri_parts : SgtinValue → List (List ℕ)
uri_parts sgtin =
    decimal sgtin.filter
    ∷ padded sgtin.company sgtin.digits
    ∷ padded sgtin.item (all_digits - sgtin.digits)
    ∷ decimal sgtin.serial
    ∷ []

-- the URI of an SGTIN
abbrev pub uri_of : SgtinValue → List ℕ
uri_of sgtin = prefix ++ join_with_byte dot (uri_parts sgtin)

-- the text is the URI of the value
pub record IsUriOf (sgtin : SgtinValue) (text : List ℕ) : Type 0 where
  pub legal : IsLegalSgtin sgtin
  pub spelled : text ≡ uri_of sgtin
