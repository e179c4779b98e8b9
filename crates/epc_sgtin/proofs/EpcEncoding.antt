-- The halves that an SGTIN has.
use Rattle.std.proofs.Common.{◌≡◌, ℕ, ◌+◌, ◌-◌, ◌*◌, ◌/◌, ◌%◌, ◌^◌, ◌<◌, ◌≤◌, List, [], ◌∷◌, ◌++◌, refl, sym, ◌∙◌, ap, subst, arith}
use Rattle.std.specs.Prelude.{bit_and}
use Rattle.std.proofs.lemmas.Nat.{and_mask, shl_whole, shr_high, mod_low, mul-add-lt, pow-add}
use Rattle.epc_sgtin.specs.SgtinValue.{SgtinValue, IsLegalSgtin}
use Rattle.epc_sgtin.specs.Partitions.{partition_row}
use Rattle.epc_sgtin.specs.Epc.{IsSgtin, header}
use Rattle.epc_sgtin.proofs.BitFields.{three_words}
use Rattle.epc_sgtin.proofs.PartitionRows.{fits_row}
use Rattle.epc_sgtin.proofs.EpcReading.{HasRoom}
use Rattle.epc_sgtin.proofs.EpcWords.{item_bits_of, both_of, fields_of, AreHalf, AreHalved, three_words_half, six_words, right_words}

-- the number of digits, back from the partition
digits_back : (digits : ℕ) → digits ≤ 12 → 12 - (12 - digits) ≡ digits
digits_back digits most = omega arith

pub company_room : (sgtin : SgtinValue) → IsLegalSgtin sgtin → sgtin.company < 2 ^ (partition_row (12 - sgtin.digits)).company_bits
company_room sgtin legal =
    let fits = fits_row (12 - sgtin.digits) (omega (arith, legal.digits_range)) in
    let room = subst (λ n. 10 ^ n ≤ 2 ^ (partition_row (12 - sgtin.digits)).company_bits) (fits.company_digits ∙ digits_back sgtin.digits legal.digits_range.1) fits.company_room in
    omega (arith, legal.company_range, room)

pub item_room : (sgtin : SgtinValue) → IsLegalSgtin sgtin → sgtin.item < 2 ^ item_bits_of (12 - sgtin.digits)
item_room sgtin legal =
    let fits = fits_row (12 - sgtin.digits) (omega (arith, legal.digits_range)) in
    let digits = fits.item_digits ∙ ap (λ n. 13 - n) (fits.company_digits ∙ digits_back sgtin.digits legal.digits_range.1) in
    let room = subst (λ n. 10 ^ n ≤ 2 ^ item_bits_of (12 - sgtin.digits)) digits fits.item_room in
    omega (arith, legal.item_range, room)

pub legal_room : (sgtin : SgtinValue) → IsLegalSgtin sgtin → HasRoom (fields_of sgtin)
legal_room sgtin legal = record {
  header = omega arith;
  filter = omega (arith, legal.filter_range);
  partition = omega (arith, legal.digits_range);
  company = company_room sgtin legal;
  item = item_room sgtin legal;
  serial = legal.serial_range;
}

-- the company and the item of an SGTIN, as one number
abbrev pub both_parts_of : SgtinValue → ℕ
both_parts_of sgtin = sgtin.company * 2 ^ item_bits_of (12 - sgtin.digits) + sgtin.item

pub both_small : (sgtin : SgtinValue) → IsLegalSgtin sgtin → both_parts_of sgtin < 2 ^ 44
both_small sgtin legal =
    let shares = partition_row (12 - sgtin.digits) in
    let fits = fits_row (12 - sgtin.digits) (omega (arith, legal.digits_range)) in
    let below : both_parts_of sgtin < 2 ^ shares.item_bits * 2 ^ shares.company_bits =
    mul-add-lt sgtin.company (2 ^ shares.item_bits) sgtin.item (2 ^ shares.company_bits) (company_room sgtin legal) (item_room sgtin legal) in
    let total : shares.item_bits + shares.company_bits ≡ 44 = omega (arith, fits.bits) in
    let widths : 2 ^ shares.item_bits * 2 ^ shares.company_bits ≡ 2 ^ 44 = sym (pow-add 2 shares.item_bits shares.company_bits) ∙ ap (λ n. 2 ^ n) total in
    subst (λ n. both_parts_of sgtin < n) widths below

-- the two halves
abbrev pub front_of : SgtinValue → ℕ
front_of sgtin = (header * 2 ^ 6 + sgtin.filter * 2 ^ 3 + (12 - sgtin.digits)) * 2 ^ 34 + both_parts_of sgtin / 2 ^ 10

abbrev pub back_of : SgtinValue → ℕ
back_of sgtin = both_parts_of sgtin % 2 ^ 10 * 2 ^ 38 + sgtin.serial

pub front_small : (sgtin : SgtinValue) → IsLegalSgtin sgtin → front_of sgtin < 2 ^ 48
front_small sgtin legal = omega (arith, legal.filter_range, legal.digits_range, both_small sgtin legal)

pub back_small : (sgtin : SgtinValue) → IsLegalSgtin sgtin → back_of sgtin < 2 ^ 48
back_small sgtin legal = omega (arith, legal.serial_range)

same_both : (sgtin : SgtinValue) → IsLegalSgtin sgtin → both_of (front_of sgtin) (back_of sgtin) ≡ both_parts_of sgtin
same_both sgtin legal = omega (arith, both_small sgtin legal, legal.serial_range)

-- words with these halves are the words of the SGTIN
pub encoded : (sgtin : SgtinValue) (words : List ℕ) → IsLegalSgtin sgtin → AreHalved words (front_of sgtin) (back_of sgtin) → IsSgtin sgtin words
encoded sgtin words legal are =
    let same = same_both sgtin legal in
    let bits = item_bits_of (12 - sgtin.digits) in
    right_words words (front_of sgtin) (back_of sgtin) sgtin are legal (record {
      header = omega (arith, legal.filter_range, legal.digits_range, both_small sgtin legal);
      filter = omega (arith, legal.filter_range, legal.digits_range, both_small sgtin legal);
      partition = omega (arith, legal.filter_range, legal.digits_range, both_small sgtin legal);
      has_row = omega (arith, legal.digits_range);
      company = rw same (shr_high sgtin.company bits sgtin.item (item_room sgtin legal));
      item = rw same (mod_low sgtin.company bits sgtin.item (item_room sgtin legal));
      serial = omega (arith, legal.serial_range);
    })

-- the words of a half
abbrev pub words_of_half : ℕ → List ℕ
words_of_half half = half / 2 ^ 32 ∷ half / 2 ^ 16 % 2 ^ 16 ∷ half % 2 ^ 16 ∷ []

half_words : (half : ℕ) → half < 2 ^ 48 → AreHalf (words_of_half half) half
half_words half small =
    three_words_half (half / 2 ^ 32) (half / 2 ^ 16 % 2 ^ 16) (half % 2 ^ 16) half (omega arith) (omega arith) (omega arith)
    (sym (three_words half (half / 2 ^ 32) (half / 2 ^ 16 % 2 ^ 16) (half % 2 ^ 16) refl refl refl))

-- each SGTIN has words
pub some_words : (sgtin : SgtinValue) → IsLegalSgtin sgtin → (words : List ℕ) × IsSgtin sgtin words
some_words sgtin legal =
    let front = front_of sgtin in
    let back = back_of sgtin in
    let p = front_small sgtin legal in
    let q = back_small sgtin legal in
    let words = words_of_half front ++ words_of_half back in
    (words, encoded sgtin words legal (six_words (words_of_half front) (words_of_half back) front back (half_words front p) (half_words back q) p q))

-- What `encode` computes: the company and the item as one number, and the two halves.
abbrev pub both_written : SgtinValue → ℕ → ℕ
both_written sgtin bits = sgtin.company * 2 ^ (44 - bits) % 2 ^ 64 + sgtin.item

abbrev pub front_written : SgtinValue → ℕ → ℕ
front_written sgtin bits = (3072 + sgtin.filter * 8 % 2 ^ 64 + (12 - sgtin.digits)) * 17179869184 % 2 ^ 64 + both_written sgtin bits / 1024

abbrev pub back_written : SgtinValue → ℕ → ℕ
back_written sgtin bits = bit_and (both_written sgtin bits) 1023 * 274877906944 % 2 ^ 64 + sgtin.serial

both_right : (sgtin : SgtinValue) (bits : ℕ) → IsLegalSgtin sgtin → bits ≡ (partition_row (12 - sgtin.digits)).company_bits → both_written sgtin bits ≡ both_parts_of sgtin
both_right sgtin bits legal is =
    let shares = partition_row (12 - sgtin.digits) in
    let fits = fits_row (12 - sgtin.digits) (omega (arith, legal.digits_range)) in
    let width : 44 - bits ≡ shares.item_bits = omega (arith, fits.bits) in
    rw (width, shl_whole sgtin.company shares.company_bits shares.item_bits 64 (company_room sgtin legal) (omega (arith, fits.bits)))

front_right : (sgtin : SgtinValue) (bits : ℕ) → IsLegalSgtin sgtin → bits ≡ (partition_row (12 - sgtin.digits)).company_bits → front_written sgtin bits ≡ front_of sgtin
front_right sgtin bits legal is = rw (both_right sgtin bits legal is) (omega (arith, legal.filter_range, legal.digits_range))

back_right : (sgtin : SgtinValue) (bits : ℕ) → IsLegalSgtin sgtin → bits ≡ (partition_row (12 - sgtin.digits)).company_bits → back_written sgtin bits ≡ back_of sgtin
back_right sgtin bits legal is = rw (both_right sgtin bits legal is, and_mask (both_parts_of sgtin) 10) (omega arith)

-- the words of the two halves that are computed are those of the SGTIN
pub encoded_words : (sgtin : SgtinValue) (bits : ℕ) (first second : List ℕ) → IsLegalSgtin sgtin → bits ≡ (partition_row (12 - sgtin.digits)).company_bits
    → AreHalf first (front_written sgtin bits) → AreHalf second (back_written sgtin bits) → IsSgtin sgtin (first ++ second)
encoded_words sgtin bits first second legal is ahead behind =
    encoded sgtin (first ++ second) legal
    (six_words first second (front_of sgtin) (back_of sgtin) (subst (AreHalf first) (front_right sgtin bits legal is) ahead) (subst (AreHalf second) (back_right sgtin bits legal is) behind)
    (front_small sgtin legal) (back_small sgtin legal))
