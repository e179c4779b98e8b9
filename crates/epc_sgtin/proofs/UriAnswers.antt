-- A text is the URI of one SGTIN, or has one first fault.
use Rattle.std.proofs.Common.{rules, ◌≡◌, ◌≢◌, ◌⊎◌, ℕ, ◌+◌, ◌-◌, ◌^◌, ◌<◌, Bool, true, false, List, [], ◌∷◌, ◌++◌, length, drop, get_or, Result, Ok, Err, refl, sym, ◌∙◌, ap, subst, arith, inl, inr, lit<, nat_lt}
use Rattle.std.specs.Fmt.{decimal}
use Rattle.std.specs.List.{join_with_byte, list_all}
use Rattle.std.specs.Str.Parse.{digits_value}
use Rattle.std.proofs.lemmas.Bool.{cases_eq, cases_lt}
use Rattle.std.proofs.lemmas.Bool.Decides.{nat_tests}
use Rattle.std.specs.Str.{IsAscii}
use Rattle.std.proofs.lemmas.Str.{IsAscii-append}
use Rattle.std.proofs.lemmas.Str.Ascii.{IsAscii-cons, IsAscii-from_all}
use Rattle.std.proofs.lemmas.Fmt.{IsAscii-decimal, IsAscii-from_digits, decimal_digit, decimal_is_IsNumeral, decimal_injective}
use Rattle.std.proofs.lemmas.List.Elements.{All-weaker}
use Rattle.std.proofs.lemmas.List.Sums.{AllPass-from_list_all, list_all-from_AllPass}
use Rattle.text_fields.specs.Lines.{Lacks, pieces_between}
use Rattle.text_fields.proofs.LineLaws.{pieces_between-cut, whole_piece}
use Rattle.epc_sgtin.specs.SgtinValue.{SgtinValue, IsLegalSgtin, IsCompanyDigits, all_digits}
use Rattle.epc_sgtin.specs.Uri.{padded, dot, prefix, uri_parts, uri_of, IsUriOf}
use Rattle.epc_sgtin.specs.UriFaults.{is_digit, AreDigits, IsFilterPart, IsCompanyPart, IsItemPart, IsSerialPart, UriParts, RefusesUri, IsUriAnswer}
use Rattle.epc_sgtin.specs.declared.tag_uri.UriFault.{UriFault}
use Rattle.epc_sgtin.specs.declared.tag_uri.UriFault.TheVariants.{Prefix, Parts, Filter, Company, Item, Serial}
use Rattle.epc_sgtin.proofs.EpcAnswers.{same_parts}
use Rattle.epc_sgtin.proofs.Padded.{numerals, length-padded, AreDigits-padded, digits_value-below, padded-digits_value, padded_injective}
use Rattle.epc_sgtin.proofs.UriReading.{serial_digits, uri_read}

-- digits have no dot
no_dot : (byte : ℕ) → is_digit byte ≡ true → byte ≢ dot
no_dot byte is same = grind (arith, nat_tests)

Lacks-digits : (part : List ℕ) → AreDigits part → Lacks dot part
Lacks-digits part are = All-weaker (λ byte. is_digit byte ≡ true) (λ byte. byte ≢ dot) no_dot part are

AreDigits-decimal : (n : ℕ) → n < 2 ^ 64 → AreDigits (decimal n)
AreDigits-decimal n small = numerals.from (decimal n) (decimal_is_IsNumeral n small).0.1

-- a URI is ASCII
IsAscii-digits : (part : List ℕ) → AreDigits part → IsAscii part
IsAscii-digits part are = IsAscii-from_digits part (numerals.to part are)

IsAscii-dotted : (part rest : List ℕ) → IsAscii part → IsAscii rest → IsAscii (part ++ dot ∷ rest)
IsAscii-dotted part rest first second = IsAscii-append part (dot ∷ rest) first (IsAscii-cons dot rest (lit< tt) second)

below_ascii : (byte : ℕ) → nat_lt byte 128 ≡ true → byte < 128
below_ascii byte is = grind (arith, nat_tests)

IsAscii-prefix : IsAscii prefix
IsAscii-prefix =
    IsAscii-from_all prefix (All-weaker (λ byte. nat_lt byte 128 ≡ true) (λ byte. byte < 128) below_ascii prefix (AllPass-from_list_all (λ byte. nat_lt byte 128) prefix refl))

pub IsAscii-uri : (sgtin : SgtinValue) → IsLegalSgtin sgtin → IsAscii (uri_of sgtin)
IsAscii-uri sgtin legal =
    let company = padded sgtin.company sgtin.digits in
    let item = padded sgtin.item (all_digits - sgtin.digits) in
    let serial = decimal sgtin.serial in
    let last = IsAscii-decimal sgtin.serial (omega (arith, legal.serial_range)) in
    let third = IsAscii-dotted item serial (IsAscii-digits item (AreDigits-padded sgtin.item (all_digits - sgtin.digits))) last in
    let second = IsAscii-dotted company (item ++ dot ∷ serial) (IsAscii-digits company (AreDigits-padded sgtin.company sgtin.digits)) third in
    let first = IsAscii-dotted (decimal sgtin.filter) (company ++ dot ∷ (item ++ dot ∷ serial)) (IsAscii-decimal sgtin.filter (omega (arith, legal.filter_range))) second in
    IsAscii-append prefix (decimal sgtin.filter ++ dot ∷ (company ++ dot ∷ (item ++ dot ∷ serial))) IsAscii-prefix first

-- four parts without dots come back
pieces_joined : (a b c d : List ℕ) → Lacks dot a → Lacks dot b → Lacks dot c → Lacks dot d → pieces_between dot (join_with_byte dot (a ∷ b ∷ c ∷ d ∷ [])) ≡ a ∷ b ∷ c ∷ d ∷ []
pieces_joined a b c d p q r s =
    let behind_a = join_with_byte dot (b ∷ c ∷ d ∷ []) in
    let behind_b = join_with_byte dot (c ∷ d ∷ []) in
    pieces_between-cut dot (join_with_byte dot (a ∷ b ∷ c ∷ d ∷ [])) a behind_a p refl
    ∙ ap (λ (l : List (List ℕ)). a ∷ l) (pieces_between-cut dot behind_a b behind_b q refl)
    ∙ ap (λ (l : List (List ℕ)). a ∷ b ∷ l) (pieces_between-cut dot behind_b c d r refl)
    ∙ ap (λ (l : List (List ℕ)). a ∷ b ∷ c ∷ l) (whole_piece dot d s)

-- a text has one rest behind the prefix
same_rest : (one other : List ℕ) → prefix ++ one ≡ prefix ++ other → one ≡ other
same_rest one other same = ap (λ (t : List ℕ). drop 21 t) same

-- and one list of parts
pub same_pieces : (text : List ℕ) (one other : UriParts text)
    → (one.filter ≡ other.filter) × (one.company ≡ other.company) × (one.item ≡ other.item) × (one.serial ≡ other.serial)
same_pieces text one other =
    let rest : one.rest ≡ other.rest = same_rest one.rest other.rest (sym one.begins ∙ other.begins) in
    let all : ◌≡◌ {A = List (List ℕ)} (one.filter ∷ one.company ∷ one.item ∷ one.serial ∷ []) (other.filter ∷ other.company ∷ other.item ∷ other.serial ∷ []) =
    sym one.joined ∙ ap (pieces_between dot) rest ∙ other.joined in
    (cc, cc, cc, cc)

-- the parts of a URI
parts_of : (sgtin : SgtinValue) (text : List ℕ) → IsUriOf sgtin text → UriParts text
parts_of sgtin text is = record {
  filter = decimal sgtin.filter;
  company = padded sgtin.company sgtin.digits;
  item = padded sgtin.item (all_digits - sgtin.digits);
  serial = decimal sgtin.serial;
  rest = join_with_byte dot (uri_parts sgtin);
  begins = is.spelled;
  joined = pieces_joined (decimal sgtin.filter) (padded sgtin.company sgtin.digits) (padded sgtin.item (all_digits - sgtin.digits)) (decimal sgtin.serial)
      (Lacks-digits (decimal sgtin.filter) (AreDigits-decimal sgtin.filter (omega (arith, is.legal.filter_range))))
      (Lacks-digits (padded sgtin.company sgtin.digits) (AreDigits-padded sgtin.company sgtin.digits))
      (Lacks-digits (padded sgtin.item (all_digits - sgtin.digits)) (AreDigits-padded sgtin.item (all_digits - sgtin.digits)))
      (Lacks-digits (decimal sgtin.serial) (AreDigits-decimal sgtin.serial (omega (arith, is.legal.serial_range))));
}

-- any parts of a URI are these
own_parts : (sgtin : SgtinValue) (text : List ℕ) → IsUriOf sgtin text → (parts : UriParts text)
    → (parts.filter ≡ decimal sgtin.filter) × (parts.company ≡ padded sgtin.company sgtin.digits) × (parts.item ≡ padded sgtin.item (all_digits - sgtin.digits)) × (parts.serial ≡ decimal sgtin.serial)
unfolding parts_of
own_parts sgtin text is parts = same_pieces text parts (parts_of sgtin text is)

-- a text is the URI of one SGTIN
pub one_sgtin : (one other : SgtinValue) (text : List ℕ) → IsUriOf one text → IsUriOf other text → one ≡ other
unfolding parts_of
one_sgtin one other text left right =
    let same = own_parts other text right (parts_of one text left) in
    let l = left.legal in
    let r = right.legal in
    let filter : one.filter ≡ other.filter = decimal_injective one.filter other.filter (omega (arith, l.filter_range)) (omega (arith, r.filter_range)) same.0 in
    let digits : one.digits ≡ other.digits = sym (length-padded one.company one.digits) ∙ ap length same.1 ∙ length-padded other.company other.digits in
    let company : one.company ≡ other.company = padded_injective one.company other.company one.digits l.company_range (subst (λ n. other.company < 10 ^ n) (sym digits) r.company_range)
    (same.1 ∙ ap (padded other.company) (sym digits)) in
    let width : all_digits - other.digits ≡ all_digits - one.digits = ap (λ n. all_digits - n) (sym digits) in
    let item : one.item ≡ other.item = padded_injective one.item other.item (all_digits - one.digits) l.item_range (subst (λ n. other.item < 10 ^ n) width r.item_range)
    (same.2 ∙ ap (padded other.item) width) in
    let serial : one.serial ≡ other.serial = decimal_injective one.serial other.serial (omega (arith, l.serial_range)) (omega (arith, r.serial_range)) same.3 in
    same_parts one other filter digits company item serial

-- each part of a URI is of its form
filter_part : (sgtin : SgtinValue) (text : List ℕ) → IsUriOf sgtin text → (parts : UriParts text) → IsFilterPart parts.filter
filter_part sgtin text is parts = (sgtin.filter, is.legal.filter_range, (own_parts sgtin text is parts).0)

company_part : (sgtin : SgtinValue) (text : List ℕ) → IsUriOf sgtin text → (parts : UriParts text) → IsCompanyPart parts.company
company_part sgtin text is parts =
    let own = (own_parts sgtin text is parts).1 in
    subst IsCompanyPart (sym own) (subst IsCompanyDigits (sym (length-padded sgtin.company sgtin.digits)) is.legal.digits_range, AreDigits-padded sgtin.company sgtin.digits)

item_part : (sgtin : SgtinValue) (text : List ℕ) → IsUriOf sgtin text → (parts : UriParts text) → IsItemPart parts.company parts.item
item_part sgtin text is parts =
    let own = own_parts sgtin text is parts in
    let company : length parts.company ≡ sgtin.digits = ap length own.1 ∙ length-padded sgtin.company sgtin.digits in
    let item : length parts.item ≡ all_digits - sgtin.digits = ap length own.2 ∙ length-padded sgtin.item (all_digits - sgtin.digits) in
    (omega (arith, is.legal.digits_range), subst AreDigits (sym own.2) (AreDigits-padded sgtin.item (all_digits - sgtin.digits)))

serial_part : (sgtin : SgtinValue) (text : List ℕ) → IsUriOf sgtin text → (parts : UriParts text) → IsSerialPart parts.serial
serial_part sgtin text is parts = (sgtin.serial, is.legal.serial_range, (own_parts sgtin text is parts).3)

-- a URI is not refused
pub apart : (sgtin : SgtinValue) (text : List ℕ) (fault : UriFault) → IsUriOf sgtin text → RefusesUri fault text → ⊥
apart sgtin text Prefix is refused = refused (join_with_byte dot (uri_parts sgtin)) is.spelled
apart sgtin text Parts is refused =
    let parts = parts_of sgtin text is in
    let rest : refused.0 ≡ parts.rest = same_rest refused.0 parts.rest (sym refused.1 ∙ parts.begins) in
    refused.2 (ap (λ (t : List ℕ). length (pieces_between dot t)) rest ∙ ap length parts.joined)
apart sgtin text Filter is refused = refused.1 (filter_part sgtin text is refused.0)
apart sgtin text Company is refused = refused.2 (company_part sgtin text is refused.0)
apart sgtin text Item is refused = refused.3 (item_part sgtin text is refused.0)
apart sgtin text Serial is refused = refused.4 (serial_part sgtin text is refused.0)

-- a text without the prefix has no parts, and one with another number of parts has not four
no_parts : (text : List ℕ) → RefusesUri Prefix text → UriParts text → ⊥
no_parts text refused parts = refused parts.rest parts.begins

not_four : (text : List ℕ) → RefusesUri Parts text → UriParts text → ⊥
not_four text refused parts =
    let rest : refused.0 ≡ parts.rest = same_rest refused.0 parts.rest (sym refused.1 ∙ parts.begins) in
    refused.2 (ap (λ (t : List ℕ). length (pieces_between dot t)) rest ∙ ap length parts.joined)

-- what holds of a part holds of it as it is cut elsewhere
filter_there : (text : List ℕ) (one other : UriParts text) → IsFilterPart one.filter → IsFilterPart other.filter
filter_there text one other is = subst IsFilterPart (same_pieces text one other).0 is

company_there : (text : List ℕ) (one other : UriParts text) → IsCompanyPart one.company → IsCompanyPart other.company
company_there text one other is = subst IsCompanyPart (same_pieces text one other).1 is

item_there : (text : List ℕ) (one other : UriParts text) → IsItemPart one.company one.item → IsItemPart other.company other.item
item_there text one other is =
    let same = same_pieces text one other in
    subst (λ (l : List ℕ). IsItemPart l other.item) same.1 (subst (λ (l : List ℕ). IsItemPart one.company l) same.2 is)

-- of two faults the first that applies excludes the other
pub one_fault : (one other : UriFault) (text : List ℕ) → RefusesUri one text → RefusesUri other text → one ≡ other
one_fault Prefix Prefix text l r = refl
one_fault Parts Parts text l r = refl
one_fault Filter Filter text l r = refl
one_fault Company Company text l r = refl
one_fault Item Item text l r = refl
one_fault Serial Serial text l r = refl
one_fault one other text l r = absurd (search (rules, no_parts text, not_four text, filter_there text, company_there text, item_there text))

-- whether a text begins with a front
cut_front : (front text : List ℕ) → ((rest : List ℕ) × (text ≡ front ++ rest)) ⊎ ((rest : List ℕ) → text ≢ front ++ rest)
cut_front [] text = inl (text, refl)
cut_front (byte ∷ front) [] = inr (λ rest same. cc)
cut_front (byte ∷ front) (other ∷ text) = elim (cases_eq other byte) [
  | inr differs ↦ inr (λ rest same. let first : other ≡ byte = cc in differs first)
  | inl first ↦ elim (cut_front front text) [
    | inl cut ↦ inl (cut.0, let behind = cut.1 in cc)
    | inr none ↦ inr (λ rest same. let behind : text ≡ front ++ rest = cc in none rest behind)
  ]
]

-- whether a part is digits
digits_by_test : (part : List ℕ) (test : Bool) → list_all is_digit part ≡ test → AreDigits part ⊎ (¬ AreDigits part)
digits_by_test part true passes = inl (AllPass-from_list_all is_digit part passes)
digits_by_test part false fails = inr (λ are. let passes = list_all-from_AllPass is_digit part are in cc)

are_digits : (part : List ℕ) → AreDigits part ⊎ (¬ AreDigits part)
are_digits part = digits_by_test part (list_all is_digit part) refl

-- whether a part is a filter
filter_answer : (part : List ℕ) → IsFilterPart part ⊎ (¬ IsFilterPart part)
filter_answer [] = inr (λ is. let same : [] ≡ (48 + is.0) ∷ [] = is.2 ∙ decimal_digit is.0 (omega (arith, is.1)) in cc)
filter_answer (byte ∷ more ∷ bytes) = inr (λ is. let same : byte ∷ more ∷ bytes ≡ (48 + is.0) ∷ [] = is.2 ∙ decimal_digit is.0 (omega (arith, is.1)) in cc)
filter_answer (byte ∷ []) = elim (cases_lt byte 48) [
  | inl low ↦ inr (λ is. let same : byte ≡ 48 + is.0 = ap (λ (l : List ℕ). get_or l 0 0) (is.2 ∙ decimal_digit is.0 (omega (arith, is.1))) in omega arith)
  | inr least ↦ elim (cases_lt 55 byte) [
    | inl high ↦ inr (λ is. let same : byte ≡ 48 + is.0 = ap (λ (l : List ℕ). get_or l 0 0) (is.2 ∙ decimal_digit is.0 (omega (arith, is.1))) in omega (arith, is.1))
    | inr most ↦
        let back : 48 + (byte - 48) ≡ byte = omega arith in
        inl (byte - 48, omega arith, ap (λ (n : ℕ). n ∷ []) (sym back) ∙ sym (decimal_digit (byte - 48) (omega arith)))
  ]
]

-- whether a part is a company, and whether one is the item behind it
company_answer : (part : List ℕ) → IsCompanyPart part ⊎ (¬ IsCompanyPart part)
company_answer part = elim (cases_lt (length part) 6) [
  | inl low ↦ inr (λ is. omega (arith, is.0))
  | inr least ↦ elim (cases_lt 12 (length part)) [
    | inl high ↦ inr (λ is. omega (arith, is.0))
    | inr most ↦ elim (are_digits part) [ inl are ↦ inl ((least, most), are) | inr not_digits ↦ inr (λ is. not_digits is.1) ]
  ]
]

item_answer : (company part : List ℕ) → IsItemPart company part ⊎ (¬ IsItemPart company part)
item_answer company part = elim (cases_eq (length company + length part) all_digits) [
  | inr differs ↦ inr (λ is. differs is.0)
  | inl same ↦ elim (are_digits part) [ inl are ↦ inl (same, are) | inr not_digits ↦ inr (λ is. not_digits is.1) ]
]

-- digits are the number's own where there are as many
own_digits : (part : List ℕ) (n : ℕ) → AreDigits part → digits_value 10 part ≡ n → n < 2 ^ 64 → length (decimal n) ≡ length part → part ≡ decimal n
own_digits part n are value small long =
    let numeral = decimal_is_IsNumeral n small in
    sym (padded-digits_value part are) ∙ ap (λ m. padded m (length part)) value ∙ ap (padded n) (sym long)
    ∙ ap (λ m. padded m (length (decimal n))) (sym numeral.1) ∙ padded-digits_value (decimal n) (numerals.from (decimal n) numeral.0.1)

-- whether a part is a serial
serial_answer : (part : List ℕ) → IsSerialPart part ⊎ (¬ IsSerialPart part)
serial_answer part = elim (are_digits part) [
  | inr not_digits ↦ inr (λ is. not_digits (serial_digits part is))
  | inl are ↦
      let number = digits_value 10 part in
      elim (cases_lt number (2 ^ 38)) [
        | inr large ↦ inr (λ is. let same : number ≡ is.0 = ap (digits_value 10) is.2 ∙ (decimal_is_IsNumeral is.0 (omega (arith, is.1))).1 in omega (arith, is.1))
        | inl small ↦ elim (cases_eq (length (decimal number)) (length part)) [
          | inl long ↦ inl (number, small, own_digits part number are refl (omega arith) long)
          | inr other ↦ inr (λ is. let same : number ≡ is.0 = ap (digits_value 10) is.2 ∙ (decimal_is_IsNumeral is.0 (omega (arith, is.1))).1 in other (ap (λ m. length (decimal m)) same ∙ ap length (sym is.2)))
        ]
      ]
]

-- a text with parts has an answer
abbrev HasAnswer : List ℕ → Type 0
HasAnswer text = ((sgtin : SgtinValue) × IsUriOf sgtin text) ⊎ ((fault : UriFault) × RefusesUri fault text)

right_parts : (text : List ℕ) (parts : UriParts text) → IsFilterPart parts.filter → IsCompanyPart parts.company → IsItemPart parts.company parts.item → IsSerialPart parts.serial → HasAnswer text
right_parts text parts filter company item serial =
    let digits = length parts.company in
    let width : length parts.item ≡ all_digits - digits = omega (arith, item.0) in
    let sgtin : SgtinValue = record { filter = filter.0; digits = digits; company = digits_value 10 parts.company; item = digits_value 10 parts.item; serial = serial.0 } in
    let legal : IsLegalSgtin sgtin = record {
      filter_range = filter.1;
      digits_range = company.0;
      company_range = digits_value-below parts.company company.1;
      item_range = subst (λ n. digits_value 10 parts.item < 10 ^ n) width (digits_value-below parts.item item.1);
      serial_range = serial.1;
    } in
    inl (
      sgtin,
      uri_read text parts sgtin legal filter.2 (sym (padded-digits_value parts.company company.1))
          (sym (padded-digits_value parts.item item.1) ∙ ap (padded (digits_value 10 parts.item)) width) serial.2,
    )

parts_answer : (text : List ℕ) → UriParts text → HasAnswer text
parts_answer text parts = elim (filter_answer parts.filter) [
  | inr wrong ↦ inr (Filter, (parts, wrong))
  | inl filter ↦ elim (company_answer parts.company) [
    | inr wrong ↦ inr (Company, (parts, filter, wrong))
    | inl company ↦ elim (item_answer parts.company parts.item) [
      | inr wrong ↦ inr (Item, (parts, filter, company, wrong))
      | inl item ↦ elim (serial_answer parts.serial) [
        | inr wrong ↦ inr (Serial, (parts, filter, company, item, wrong))
        | inl serial ↦ right_parts text parts filter company item serial
      ]
    ]
  ]
]

-- so has one whose rest is cut into pieces
pieces_answer : (text rest : List ℕ) (pieces : List (List ℕ)) → text ≡ prefix ++ rest → pieces_between dot rest ≡ pieces → HasAnswer text
pieces_answer text rest (a ∷ b ∷ c ∷ d ∷ []) cut are =
    parts_answer text (record { filter = a; company = b; item = c; serial = d; rest = rest; begins = cut; joined = are })
pieces_answer text rest pieces cut are = inr (Parts, (rest, cut, λ four. omega (arith, ap length are)))

pub some_answer : (text : List ℕ) → ((sgtin : SgtinValue) × IsUriOf sgtin text) ⊎ ((fault : UriFault) × RefusesUri fault text)
some_answer text = elim (cut_front prefix text) [
  | inr none ↦ inr (Prefix, none)
  | inl cut ↦ pieces_answer text cut.0 (pieces_between dot cut.0) cut.1 refl
]

pub one_answer : (text : List ℕ) (one other : Result SgtinValue UriFault) → IsUriAnswer one text → IsUriAnswer other text → one ≡ other
one_answer text (Ok one) (Ok other) l r = ap (λ (sgtin : SgtinValue). Ok sgtin) (one_sgtin one other text l r)
one_answer text (Ok one) (Err fault) l r = absurd (apart one text fault l r)
one_answer text (Err fault) (Ok other) l r = absurd (apart other text fault r l)
one_answer text (Err one) (Err other) l r = ap (λ (fault : UriFault). Err fault) (one_fault one other text l r)
