-- The words of an EPC, by its two halves.
use Rattle.std.proofs.Common.{◌≡◌, ◌≢◌, ℕ, ◌+◌, ◌-◌, ◌*◌, ◌/◌, ◌%◌, ◌^◌, ◌<◌, ◌≤◌, List, [], ◌∷◌, ◌++◌, length, refl, sym, ◌∙◌, ap, subst, arith, append_assoc}
use Rattle.std.specs.Prelude.{All}
use Rattle.std.proofs.lemmas.List.{length-append}
use Rattle.std.proofs.lemmas.List.Concat.{flat_map-append}
use Rattle.std.proofs.lemmas.List.Elements.{All-append, All-cons, All-nil}
use Rattle.std.proofs.lemmas.Nat.{shr_below, pow_pos}
use Rattle.bit_strings.specs.NumbersInBits.{field_of}
use Rattle.bit_strings.specs.Words.{bits_of_words}
use Rattle.epc_sgtin.specs.SgtinValue.{SgtinValue, IsLegalSgtin, IsCompany, IsItem}
use Rattle.epc_sgtin.specs.Partitions.{partition_row}
use Rattle.epc_sgtin.specs.Epc.{IsSgtin, header}
use Rattle.epc_sgtin.specs.EpcFaults.{RefusesEpc, HasSgtinHeader, HasPartition, header_in, partition_in, company_in, item_in, digits_in}
use Rattle.epc_sgtin.specs.declared.encoding.EpcFault.TheVariants.{Header, Partition, Company, Item}
use Rattle.epc_sgtin.proofs.BitFields.{two_halves, both_parts}
use Rattle.epc_sgtin.proofs.PartitionRows.{fits_row}
use Rattle.epc_sgtin.proofs.EpcReading.{Fields, fields_bits, HasRoom, front_fields, read_fields}

-- how many bits the item has
abbrev pub item_bits_of : ℕ → ℕ
item_bits_of partition = (partition_row partition).item_bits

-- the company and the item, as one number
abbrev pub both_of : ℕ → ℕ → ℕ
both_of front back = front % 2 ^ 34 * 2 ^ 10 + back / 2 ^ 38

-- the company and the item that stand in two halves, by the partition
abbrev pub company_of : ℕ → ℕ → ℕ → ℕ
company_of front back partition = both_of front back / 2 ^ item_bits_of partition

abbrev pub item_of : ℕ → ℕ → ℕ → ℕ
item_of front back partition = both_of front back % 2 ^ item_bits_of partition

-- the two halves have these fields
pub record AreHalvesOf (front back : ℕ) (f : Fields) : Type 0 where
  pub header : front / 2 ^ 40 ≡ f.header
  pub filter : front / 2 ^ 37 % 2 ^ 3 ≡ f.filter
  pub partition : front / 2 ^ 34 % 2 ^ 3 ≡ f.partition
  pub has_row : f.partition < 7
  pub company : both_of front back / 2 ^ item_bits_of f.partition ≡ f.company
  pub item : both_of front back % 2 ^ item_bits_of f.partition ≡ f.item
  pub serial : back % 2 ^ 38 ≡ f.serial

pub halves_bits : (front back : ℕ) (f : Fields) → back < 2 ^ 48 → AreHalvesOf front back f → field_of front 48 ++ field_of back 48 ≡ fields_bits f
halves_bits front back f small are =
    let both = both_of front back in
    let shares = partition_row f.partition in
    let halves = two_halves front back both (omega (arith, small)) (omega (arith, small)) in
    let parts : field_of both 44 ≡ field_of f.company shares.company_bits ++ field_of f.item shares.item_bits =
    both_parts both shares.company_bits shares.item_bits f.company f.item 44 (fits_row f.partition are.has_row).bits are.company are.item in
    halves ∙ rw (are.header, are.filter, are.partition, are.serial, parts) (simp append_assoc)

-- each number that stands in a half has room in its field
pub halves_room : (front back : ℕ) (f : Fields) → front < 2 ^ 48 → back < 2 ^ 48 → AreHalvesOf front back f → HasRoom f
halves_room front back f front_small back_small are =
    let both = both_of front back in
    let shares = partition_row f.partition in
    let small : both < 2 ^ 44 = omega (arith, front_small, back_small) in
    let widths = (fits_row f.partition are.has_row).bits in
    let small' : both < 2 ^ (shares.company_bits + shares.item_bits) = subst (λ n. both < 2 ^ n) (sym widths) small in
    record {
      header = omega (arith, front_small, are.header);
      filter = omega (arith, are.filter);
      partition = omega (arith, are.partition);
      company = subst (λ n. n < 2 ^ shares.company_bits) are.company (shr_below both shares.company_bits shares.item_bits small');
      item = subst (λ n. n < 2 ^ shares.item_bits) are.item (omega (arith, pow_pos shares.item_bits));
      serial = omega (arith, are.serial);
    }

-- the words have these halves
pub record AreHalved (words : List ℕ) (front back : ℕ) : Type 0 where
  pub six : length words ≡ 6
  pub sixteens : All (λ word. word < 2 ^ 16) words
  pub bits : bits_of_words words ≡ field_of front 48 ++ field_of back 48
  pub front_small : front < 2 ^ 48
  pub back_small : back < 2 ^ 48

-- three words of 16 bits have the bits of a half
pub record AreHalf (words : List ℕ) (half : ℕ) : Type 0 where
  pub three : length words ≡ 3
  pub sixteens : All (λ word. word < 2 ^ 16) words
  pub bits : bits_of_words words ≡ field_of half 48

-- such words, three to a half
pub six_words : (first second : List ℕ) (front back : ℕ) → AreHalf first front → AreHalf second back → front < 2 ^ 48 → back < 2 ^ 48 → AreHalved (first ++ second) front back
six_words first second front back ahead behind front_small back_small = record {
  six = omega (arith, length-append first second, ahead.three, behind.three);
  sixteens = All-append (λ word. word < 2 ^ 16) first second ahead.sixteens behind.sixteens;
  bits = flat_map-append (λ word. field_of word 16) first second ∙ rw (ahead.bits, behind.bits);
  front_small = front_small;
  back_small = back_small;
}

-- three words with the bits of a half
pub three_words_half : (a b c half : ℕ) → a < 2 ^ 16 → b < 2 ^ 16 → c < 2 ^ 16 → bits_of_words (a ∷ b ∷ c ∷ []) ≡ field_of half 48 → AreHalf (a ∷ b ∷ c ∷ []) half
three_words_half a b c half p q r bits =
    let P : ℕ → Type 0 = λ word. word < 2 ^ 16 in
    record { three = refl; sixteens = All-cons P a (b ∷ c ∷ []) p (All-cons P b (c ∷ []) q (All-cons P c [] r (All-nil P))); bits = bits }

-- the header and the partition of words
pub front_of_words : (words : List ℕ) (front back : ℕ) → AreHalved words front back
    → (header_in (bits_of_words words) ≡ front / 2 ^ 40) × (partition_in (bits_of_words words) ≡ front / 2 ^ 34 % 2 ^ 3)
front_of_words words front back are =
    let both = both_of front back in
    let halves = two_halves front back both (omega (arith, are.back_small)) (omega (arith, are.back_small)) in
    let read = front_fields (bits_of_words words) (field_of both 44 ++ field_of (back % 2 ^ 38) 38) (front / 2 ^ 40) (front / 2 ^ 37 % 2 ^ 3) (front / 2 ^ 34 % 2 ^ 3)
    (omega (arith, are.front_small)) (omega arith) (omega arith) (are.bits ∙ halves) in
    (read.0, read.2)

-- the header is another
pub wrong_header : (words : List ℕ) (front back : ℕ) → AreHalved words front back → front / 2 ^ 40 ≢ header → RefusesEpc Header words
wrong_header words front back are other = (are.six, λ same. other (sym (front_of_words words front back are).0 ∙ same))

has_header : (words : List ℕ) (front back : ℕ) → AreHalved words front back → front / 2 ^ 40 ≡ header → HasSgtinHeader words
has_header words front back are same = (are.six, (front_of_words words front back are).0 ∙ same)

-- there is no such partition
pub wrong_partition : (words : List ℕ) (front back : ℕ) → AreHalved words front back → front / 2 ^ 40 ≡ header → front / 2 ^ 34 % 2 ^ 3 ≡ 7 → RefusesEpc Partition words
wrong_partition words front back are same seven = (has_header words front back are same, (front_of_words words front back are).1 ∙ seven)

-- the fields of words whose partition has a row
pub fields_of_halves : ℕ → ℕ → Fields
fields_of_halves front back =
    let partition = front / 2 ^ 34 % 2 ^ 3 in
    record {
      header = front / 2 ^ 40;
      filter = front / 2 ^ 37 % 2 ^ 3;
      partition = partition;
      company = both_of front back / 2 ^ item_bits_of partition;
      item = both_of front back % 2 ^ item_bits_of partition;
      serial = back % 2 ^ 38;
    }

-- the company and the item of words, and how many digits the company has
pub back_of_words : (words : List ℕ) (front back : ℕ) → AreHalved words front back → front / 2 ^ 34 % 2 ^ 3 < 7
    → (company_in (bits_of_words words) ≡ both_of front back / 2 ^ item_bits_of (front / 2 ^ 34 % 2 ^ 3))
    × (item_in (bits_of_words words) ≡ both_of front back % 2 ^ item_bits_of (front / 2 ^ 34 % 2 ^ 3))
    × (digits_in (bits_of_words words) ≡ 12 - front / 2 ^ 34 % 2 ^ 3)
unfolding fields_of_halves
back_of_words words front back are row =
    let f = fields_of_halves front back in
    let halves : AreHalvesOf front back f = record {
      header = refl;
      filter = refl;
      partition = refl;
      has_row = row;
      company = refl;
      item = refl;
      serial = refl;
    } in
    let read = read_fields (bits_of_words words) f (halves_room front back f are.front_small are.back_small halves) (are.bits ∙ halves_bits front back f are.back_small halves) in
    (read.3, read.4, ap (λ n. (partition_row n).company_digits) read.2 ∙ (fits_row f.partition row).company_digits)

has_partition : (words : List ℕ) (front back : ℕ) → AreHalved words front back → front / 2 ^ 40 ≡ header → front / 2 ^ 34 % 2 ^ 3 < 7 → HasPartition words
has_partition words front back are same row =
    (has_header words front back are same, λ seven. omega (arith, (front_of_words words front back are).1))

-- the words have these halves, with the header, and with a partition that has a row
pub record HasRow (words : List ℕ) (front back partition : ℕ) : Type 0 where
  pub halved : AreHalved words front back
  pub header_is : front / 2 ^ 40 ≡ header
  pub partition_is : front / 2 ^ 34 % 2 ^ 3 ≡ partition
  pub has_row : partition < 7

-- the partition, the company, the item and the digits in such words
partition_there : (words : List ℕ) (front back partition : ℕ) → HasRow words front back partition → HasPartition words
partition_there words front back partition h =
    has_partition words front back h.halved h.header_is (subst (λ n. n < 7) (sym h.partition_is) h.has_row)

parts_there : (words : List ℕ) (front back partition : ℕ) → HasRow words front back partition
    → (company_in (bits_of_words words) ≡ company_of front back partition) × (item_in (bits_of_words words) ≡ item_of front back partition)
    × (digits_in (bits_of_words words) ≡ 12 - partition)
parts_there words front back partition h =
    let at = h.partition_is in
    let read = back_of_words words front back h.halved (subst (λ n. n < 7) (sym at) h.has_row) in
    (read.0 ∙ ap (λ n. company_of front back n) at, read.1 ∙ ap (λ n. item_of front back n) at, read.2 ∙ ap (λ n. 12 - n) at)

-- the company has too many digits
pub wrong_company : (words : List ℕ) (front back partition : ℕ) → HasRow words front back partition → 10 ^ (12 - partition) ≤ company_of front back partition → RefusesEpc Company words
wrong_company words front back partition h large =
    let read = parts_there words front back partition h in
    let company = company_of front back partition in (
      partition_there words front back partition h,
      λ small. let small' : company < 10 ^ (12 - partition) = subst (λ n. company < 10 ^ n) read.2 (subst (λ n. n < 10 ^ digits_in (bits_of_words words)) read.0 small) in omega (arith, small', large),
    )

-- the item has too many digits
pub wrong_item : (words : List ℕ) (front back partition : ℕ) → HasRow words front back partition → company_of front back partition < 10 ^ (12 - partition)
    → 10 ^ (13 - (12 - partition)) ≤ item_of front back partition → RefusesEpc Item words
wrong_item words front back partition h small large =
    let read = parts_there words front back partition h in
    let item = item_of front back partition in (
      partition_there words front back partition h,
      subst (λ n. IsCompany n (company_in (bits_of_words words))) (sym read.2) (subst (λ n. n < 10 ^ (12 - partition)) (sym read.0) small),
      λ few. let few' : item < 10 ^ (13 - (12 - partition)) = subst (λ n. IsItem n item) read.2 (subst (λ n. IsItem (digits_in (bits_of_words words)) n) read.1 few) in omega (arith, few', large),
    )

-- the fields of an SGTIN
abbrev pub fields_of : SgtinValue → Fields
fields_of sgtin =
    record { header = header; filter = sgtin.filter; partition = 12 - sgtin.digits; company = sgtin.company; item = sgtin.item; serial = sgtin.serial }

-- the words are an SGTIN-96
pub right_words : (words : List ℕ) (front back : ℕ) (sgtin : SgtinValue) → AreHalved words front back → IsLegalSgtin sgtin → AreHalvesOf front back (fields_of sgtin) → IsSgtin sgtin words
right_words words front back sgtin are legal halves =
    record { legal = legal; sixteens = are.sixteens; bits = are.bits ∙ halves_bits front back (fields_of sgtin) are.back_small halves }
