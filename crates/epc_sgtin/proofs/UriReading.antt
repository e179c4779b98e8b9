-- The parts of a URI.
use Rattle.std.proofs.Common.{◌≡◌, ℕ, ◌+◌, ◌-◌, ◌^◌, ◌<◌, ◌≤◌, eqb, List, [], ◌∷◌, ◌++◌, length, sym, ◌∙◌, ap, subst, arith, append_assoc}
use Rattle.std.specs.Fmt.{decimal}
use Rattle.std.specs.List.{join_with_byte}
use Rattle.std.specs.Str.Parse.{digits_value}
use Rattle.std.proofs.lemmas.Fmt.{decimal_digit, decimal_is_IsNumeral, length-decimal-le}
use Rattle.std.proofs.lemmas.List.Splits.{length-slice_split, join_with_byte-slice_split}
use Rattle.epc_sgtin.specs.SgtinValue.{SgtinValue, IsLegalSgtin, all_digits}
use Rattle.text_fields.specs.Lines.{pieces_between}
use Rattle.epc_sgtin.specs.Uri.{padded, dot, prefix, IsUriOf}
use Rattle.epc_sgtin.specs.UriFaults.{AreDigits, IsSerialPart, UriParts}
use Rattle.epc_sgtin.proofs.Padded.{numerals, length-padded, digits_value-padded}

pub pieces_there : (text : List ℕ) → 1 ≤ length (pieces_between dot text)
pieces_there text = omega (arith, length-slice_split (λ each. eqb each dot) text)

-- a serial is written with 1 to 12 digits,
pub serial_short : (part : List ℕ) → IsSerialPart part → (1 ≤ length part) × (length part ≤ 12)
serial_short part is =
    let numeral = (decimal_is_IsNumeral is.0 (omega (arith, is.1))).0 in
    let long : length part ≡ length (decimal is.0) = ap length is.2 in
    (omega (arith, numeral.0), omega (arith, length-decimal-le 12 is.0 (omega arith) (omega (arith, is.1)) (omega (arith, is.1))))

pub serial_digits : (part : List ℕ) → IsSerialPart part → AreDigits part
serial_digits part is =
    let numeral = (decimal_is_IsNumeral is.0 (omega (arith, is.1))).0 in
    subst AreDigits (sym is.2) (numerals.from (decimal is.0) numeral.1)

-- those of its number
pub serial_number : (part : List ℕ) (number : ℕ) → IsSerialPart part → number < 10 ^ length part → part ≡ padded number (length part) → (number < 2 ^ 38) × (part ≡ decimal number)
serial_number part number is below spelled =
    let value = (decimal_is_IsNumeral is.0 (omega (arith, is.1))).1 in
    let same : number ≡ is.0 = sym (digits_value-padded number (length part) below) ∙ ap (digits_value 10) (sym spelled ∙ is.2) ∙ value in
    (omega (arith, is.1), is.2 ∙ ap decimal (sym same))

-- with as many of them as it has
pub own_width : (part : List ℕ) (number width : ℕ) → part ≡ decimal number → padded number width ≡ decimal number → width ≡ length part
own_width part number width spelled digits = sym (length-padded number width) ∙ ap length (digits ∙ sym spelled)

-- parts behind a front, joined one by one
joined : (front a b c d : List ℕ) → (((((((([] ++ front) ++ a) ++ dot ∷ []) ++ b) ++ dot ∷ []) ++ c) ++ dot ∷ []) ++ d) ≡ front ++ join_with_byte dot (a ∷ b ∷ c ∷ d ∷ [])
joined front a b c d = simp append_assoc

-- the four parts that a text was cut into
abbrev pub parts_cut : (text rest filter company item serial : List ℕ) → text ≡ prefix ++ rest → pieces_between dot rest ≡ filter ∷ company ∷ item ∷ serial ∷ [] → UriParts text
parts_cut text rest filter company item serial begins joined =
    record { filter = filter; company = company; item = item; serial = serial; rest = rest; begins = begins; joined = joined }

-- what is written, part by part, is the URI
pub uri_written : (sgtin : SgtinValue) (width : ℕ) (text : List ℕ) → IsLegalSgtin sgtin → padded sgtin.serial width ≡ decimal sgtin.serial
    → text ≡ ((((((([] ++ prefix) ++ (48 + sgtin.filter) ∷ []) ++ dot ∷ []) ++ padded sgtin.company sgtin.digits) ++ dot ∷ []) ++ padded sgtin.item (13 - sgtin.digits)) ++ dot ∷ []) ++ padded sgtin.serial width
    → IsUriOf sgtin text
uri_written sgtin width text legal serial written =
    let filter : (48 + sgtin.filter) ∷ [] ≡ decimal sgtin.filter = sym (decimal_digit sgtin.filter (omega (arith, legal.filter_range))) in
    let parts = joined prefix ((48 + sgtin.filter) ∷ []) (padded sgtin.company sgtin.digits) (padded sgtin.item (13 - sgtin.digits)) (padded sgtin.serial width) in
    let same = ap (λ (f : List ℕ). prefix ++ join_with_byte dot (f ∷ padded sgtin.company sgtin.digits ∷ padded sgtin.item (13 - sgtin.digits) ∷ padded sgtin.serial width ∷ [])) filter in
    let same' = ap (λ (s : List ℕ). prefix ++ join_with_byte dot (decimal sgtin.filter ∷ padded sgtin.company sgtin.digits ∷ padded sgtin.item (13 - sgtin.digits) ∷ s ∷ [])) serial in
    record { legal = legal; spelled = written ∙ parts ∙ same ∙ same' }

-- a text is its parts behind the prefix
pub parts_joined : (text : List ℕ) (parts : UriParts text) → text ≡ prefix ++ join_with_byte dot (parts.filter ∷ parts.company ∷ parts.item ∷ parts.serial ∷ [])
parts_joined text parts =
    parts.begins ∙ ap (λ (rest : List ℕ). prefix ++ rest) (sym (join_with_byte-slice_split dot parts.rest) ∙ ap (join_with_byte dot) parts.joined)

-- a text whose parts are those of an SGTIN is its URI
pub uri_read : (text : List ℕ) (parts : UriParts text) (sgtin : SgtinValue) → IsLegalSgtin sgtin → parts.filter ≡ decimal sgtin.filter → parts.company ≡ padded sgtin.company sgtin.digits
    → parts.item ≡ padded sgtin.item (all_digits - sgtin.digits) → parts.serial ≡ decimal sgtin.serial → IsUriOf sgtin text
uri_read text parts sgtin legal e0 e1 e2 e3 =
    record { legal = legal; spelled = parts_joined text parts ∙ rw (e0, e1, e2, e3) }
