-- What `decode` computes of the two halves of an EPC.
use Rattle.std.proofs.Common.{◌≡◌, ◌≢◌, ℕ, ◌+◌, ◌-◌, ◌*◌, ◌/◌, ◌%◌, ◌^◌, ◌<◌, ◌≤◌, List, [], ◌∷◌, length, get_or, sym, ◌∙◌, subst, arith}
use Rattle.std.specs.Prelude.{bit_and}
use Rattle.std.proofs.lemmas.Nat.{and_mask, one_shl}
use Rattle.bit_strings.specs.NumbersInBits.{field_of}
use Rattle.bit_strings.specs.Words.{bits_of_words}
use Rattle.epc_sgtin.specs.SgtinValue.{SgtinValue, IsLegalSgtin}
use Rattle.epc_sgtin.specs.Partitions.{partition_row}
use Rattle.epc_sgtin.specs.Epc.{IsSgtin, header}
use Rattle.epc_sgtin.specs.EpcFaults.{RefusesEpc}
use Rattle.epc_sgtin.specs.declared.encoding.EpcFault.TheVariants.{Company, Item}
use Rattle.epc_sgtin.proofs.PartitionRows.{fits_row}
use Rattle.epc_sgtin.proofs.EpcWords.{item_bits_of, both_of, company_of, item_of, AreHalved, HasRow, three_words_half, six_words, right_words, wrong_company, wrong_item}

-- six words that are read one by one
pub read_words : (words : List ℕ) (front back : ℕ) → length words ≡ 6 → ((i : ℕ) → get_or words i 0 < 2 ^ 16) → front < 2 ^ 48 → back < 2 ^ 48
    → field_of front 48 ≡ bits_of_words (get_or words 0 0 ∷ get_or words 1 0 ∷ get_or words 2 0 ∷ [])
    → field_of back 48 ≡ bits_of_words (get_or words 3 0 ∷ get_or words 4 0 ∷ get_or words 5 0 ∷ []) → AreHalved words front back
read_words (a ∷ b ∷ c ∷ d ∷ e ∷ f ∷ []) front back six fit p q first second =
    six_words (a ∷ b ∷ c ∷ []) (d ∷ e ∷ f ∷ []) front back (three_words_half a b c front (fit 0) (fit 1) (fit 2) (sym first)) (three_words_half d e f back (fit 3) (fit 4) (fit 5) (sym second)) p q
read_words words front back six fit p q first second = absurd (omega arith)

-- the numbers that are computed
abbrev pub partition_read : ℕ → ℕ
partition_read front = bit_and (front / 2 ^ 34) 7

abbrev pub both_read : ℕ → ℕ → ℕ
both_read front back = bit_and front 17179869183 * 1024 % 2 ^ 64 + back / 2 ^ 38

abbrev pub company_read : ℕ → ℕ → ℕ → ℕ
company_read front back bits = both_read front back / 2 ^ (44 - bits)

abbrev pub item_read : ℕ → ℕ → ℕ → ℕ
item_read front back bits = bit_and (both_read front back) (1 * 2 ^ (44 - bits) % 2 ^ 64 - 1)

pub partition_right : (front : ℕ) → front / 2 ^ 34 % 2 ^ 3 ≡ partition_read front
partition_right front = sym (and_mask (front / 2 ^ 34) 3)

both_right : (front back : ℕ) → front < 2 ^ 48 → both_read front back ≡ both_of front back
both_right front back small = rw (and_mask front 34) (omega arith)

width_right : (partition bits : ℕ) → partition < 7 → bits ≡ (partition_row partition).company_bits → 44 - bits ≡ item_bits_of partition
width_right partition bits row is = omega (arith, (fits_row partition row).bits)

company_right : (front back partition bits : ℕ) → front < 2 ^ 48 → partition < 7 → bits ≡ (partition_row partition).company_bits
    → company_read front back bits ≡ both_of front back / 2 ^ item_bits_of partition
company_right front back partition bits small row is = rw (both_right front back small, width_right partition bits row is)

item_right : (front back partition bits : ℕ) → front < 2 ^ 48 → partition < 7 → bits ≡ (partition_row partition).company_bits
    → item_read front back bits ≡ both_of front back % 2 ^ item_bits_of partition
item_right front back partition bits small row is =
    let width = item_bits_of partition in
    let narrow : width < 64 = omega (arith, (fits_row partition row).bits) in
    rw (both_right front back small, width_right partition bits row is, one_shl width 64 narrow) (and_mask (both_of front back) width)

-- the partition that is read has a row
pub row_read : (front : ℕ) → partition_read front ≢ 7 → partition_read front < 7
row_read front other = omega (arith, and_mask (front / 2 ^ 34) 3)

-- the words have these halves, with the header and a partition that has a row, whose company has so many bits
pub record IsRead (words : List ℕ) (front back bits : ℕ) : Type 0 where
  pub row : HasRow words front back (partition_read front)
  pub bits_are : bits ≡ (partition_row (partition_read front)).company_bits

pub is_read : (words : List ℕ) (front back bits : ℕ) → AreHalved words front back → front / 2 ^ 40 ≡ header → partition_read front ≢ 7
    → bits ≡ (partition_row (partition_read front)).company_bits → IsRead words front back bits
is_read words front back bits are e other is = record {
  row = record { halved = are; header_is = e; partition_is = partition_right front; has_row = row_read front other };
  bits_are = is;
}

-- what is computed is the company and the item
company_there : (words : List ℕ) (front back bits : ℕ) → IsRead words front back bits → company_read front back bits ≡ company_of front back (partition_read front)
company_there words front back bits r = company_right front back (partition_read front) bits r.row.halved.front_small r.row.has_row r.bits_are

item_there : (words : List ℕ) (front back bits : ℕ) → IsRead words front back bits → item_read front back bits ≡ item_of front back (partition_read front)
item_there words front back bits r = item_right front back (partition_read front) bits r.row.halved.front_small r.row.has_row r.bits_are

pub company_refused : (words : List ℕ) (front back bits limit : ℕ) → IsRead words front back bits → limit ≡ 10 ^ (12 - partition_read front) → limit ≤ company_read front back bits
    → RefusesEpc Company words
company_refused words front back bits limit r limit_is large =
    wrong_company words front back (partition_read front) r.row
    (subst (λ n. n ≤ company_of front back (partition_read front)) limit_is (subst (λ n. limit ≤ n) (company_there words front back bits r) large))

-- ... and the company has no more digits than the partition says
pub record HasCompany (words : List ℕ) (front back bits : ℕ) : Type 0 where
  pub read : IsRead words front back bits
  pub small : company_read front back bits < 10 ^ (12 - partition_read front)

pub has_company : (words : List ℕ) (front back bits limit : ℕ) → IsRead words front back bits → limit ≡ 10 ^ (12 - partition_read front) → company_read front back bits < limit
    → HasCompany words front back bits
has_company words front back bits limit r limit_is small = record { read = r; small = subst (λ n. company_read front back bits < n) limit_is small }

pub item_refused : (words : List ℕ) (front back bits limit : ℕ) → HasCompany words front back bits → limit ≡ 10 ^ (13 - (12 - partition_read front)) → limit ≤ item_read front back bits
    → RefusesEpc Item words
item_refused words front back bits limit h limit_is large =
    wrong_item words front back (partition_read front) h.read.row (subst (λ n. n < 10 ^ (12 - partition_read front)) (company_there words front back bits h.read) h.small)
    (subst (λ n. n ≤ item_of front back (partition_read front)) limit_is (subst (λ n. limit ≤ n) (item_there words front back bits h.read) large))

pub accepted : (words : List ℕ) (front back bits limit : ℕ) → HasCompany words front back bits → limit ≡ 10 ^ (13 - (12 - partition_read front)) → item_read front back bits < limit
    → IsSgtin (record { filter = bit_and (front / 2 ^ 37) 7; digits = 12 - partition_read front; company = company_read front back bits; item = item_read front back bits; serial = bit_and back 274877906943 }) words
accepted words front back bits limit h limit_is small =
    let row = h.read.row.has_row in
    let are = h.read.row.halved in
    let sgtin : SgtinValue = record { filter = bit_and (front / 2 ^ 37) 7; digits = 12 - partition_read front; company = company_read front back bits; item = item_read front back bits; serial = bit_and back 274877906943 } in
    let digits : 12 - (12 - partition_read front) ≡ partition_read front = omega arith in
    let legal : IsLegalSgtin sgtin = record {
      filter_range = omega (arith, and_mask (front / 2 ^ 37) 3);
      digits_range = (omega arith, omega arith);
      company_range = h.small;
      item_range = subst (λ n. item_read front back bits < n) limit_is small;
      serial_range = omega (arith, and_mask back 38);
    } in
    right_words words front back sgtin are legal (record {
      header = h.read.row.header_is;
      filter = sym (and_mask (front / 2 ^ 37) 3);
      partition = partition_right front ∙ sym digits;
      has_row = omega arith;
      company = rw digits (sym (company_there words front back bits h.read));
      item = rw digits (sym (item_there words front back bits h.read));
      serial = sym (and_mask back 38);
    })
