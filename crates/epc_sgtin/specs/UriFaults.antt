-- Why a text is no EPC Tag URI of an SGTIN-96: six things are asked in order, and the first that fails is the answer. The
-- order is profile.
use Rattle.std.specs.Prelude.{◌≡◌, ◌≢◌, ℕ, ◌+◌, nat_le, Bool, ◌&&◌, List, [], ◌∷◌, ◌++◌, length, Result, Ok, Err}
use Rattle.std.specs.List.{AllPass}
use Rattle.std.specs.Fmt.{decimal}
use Rattle.text_fields.specs.Lines.{pieces_between}
use Rattle.epc_sgtin.specs.SgtinValue.{SgtinValue, IsFilter, IsCompanyDigits, IsSerial, all_digits}
use Rattle.epc_sgtin.specs.Uri.{prefix, dot, IsUriOf}
use Rattle.epc_sgtin.specs.declared.tag_uri.UriFault.{UriFault}
use Rattle.epc_sgtin.specs.declared.tag_uri.UriFault.TheVariants.{Prefix, Parts, Filter, Company, Item, Serial}

-- whether a byte of a URI is a decimal digit
abbrev pub is_digit : ℕ → Bool
is_digit byte = nat_le 48 byte && nat_le byte 57

-- a part of a URI that is decimal digits alone
abbrev pub AreDigits : List ℕ → Type 0
AreDigits part = AllPass is_digit part

-- one digit from 0 to 7
abbrev pub IsFilterPart : List ℕ → Type 0
IsFilterPart part = (filter : ℕ) × IsFilter filter × (part ≡ decimal filter)

-- 6 to 12 digits
abbrev pub IsCompanyPart : List ℕ → Type 0
IsCompanyPart part = IsCompanyDigits (length part) × AreDigits part

-- as many digits as those of the company leave
abbrev pub IsItemPart : List ℕ → List ℕ → Type 0
IsItemPart company part = (length company + length part ≡ all_digits) × AreDigits part

-- a number of 38 bits, without leading zeros
abbrev pub IsSerialPart : List ℕ → Type 0
IsSerialPart part = (serial : ℕ) × IsSerial serial × (part ≡ decimal serial)

-- behind the prefix stand these four parts, joined by dots
pub record UriParts (text : List ℕ) : Type 0 where
  pub filter : List ℕ
  pub company : List ℕ
  pub item : List ℕ
  pub serial : List ℕ
  pub rest : List ℕ
  pub begins : text ≡ prefix ++ rest
  pub joined : pieces_between dot rest ≡ filter ∷ company ∷ item ∷ serial ∷ []

-- the text is no URI of an SGTIN-96 for this reason, the first of the six that applies
abbrev pub RefusesUri : UriFault → List ℕ → Type 0
RefusesUri Prefix text = (rest : List ℕ) → text ≢ prefix ++ rest
RefusesUri Parts text = (rest : List ℕ) × (text ≡ prefix ++ rest) × (length (pieces_between dot rest) ≢ 4)
RefusesUri Filter text = (parts : UriParts text) × (¬ IsFilterPart parts.filter)
RefusesUri Company text = (parts : UriParts text) × IsFilterPart parts.filter × (¬ IsCompanyPart parts.company)
RefusesUri Item text =
    (parts : UriParts text) × IsFilterPart parts.filter × IsCompanyPart parts.company × (¬ IsItemPart parts.company parts.item)
RefusesUri Serial text =
    (parts : UriParts text) × IsFilterPart parts.filter × IsCompanyPart parts.company × IsItemPart parts.company parts.item
    × (¬ IsSerialPart parts.serial)

-- the answer to a text: the SGTIN whose URI it is, or why it is that of none
abbrev pub IsUriAnswer : Result SgtinValue UriFault → List ℕ → Type 0
IsUriAnswer (Ok sgtin) text = IsUriOf sgtin text
IsUriAnswer (Err fault) text = RefusesUri fault text
