-- Words are those of one SGTIN, or have one first fault.
use Rattle.std.proofs.Common.{rules, ◌≡◌, ◌⊎◌, ℕ, ◌+◌, ◌-◌, ◌*◌, ◌/◌, ◌%◌, ◌^◌, ◌<◌, List, [], ◌∷◌, length, Result, Ok, Err, refl, sym, ◌∙◌, ap, arith, inl, inr, length-append}
use Rattle.std.specs.Prelude.{All}
use Rattle.std.proofs.lemmas.Bool.{cases_eq, cases_lt}
use Rattle.std.proofs.lemmas.List.Elements.{All-head, All-tail}
use Rattle.bit_strings.specs.laws.NumbersInBits.{length-field_of}
use Rattle.bit_strings.specs.Words.{bits_of_words}
use Rattle.bit_strings.specs.laws.Words.{length-bits_of_words, bits_of_words-same}
use Rattle.epc_sgtin.specs.SgtinValue.{SgtinValue, IsLegalSgtin}
use Rattle.epc_sgtin.specs.Partitions.{partition_row}
use Rattle.epc_sgtin.specs.Epc.{IsSgtin, header}
use Rattle.epc_sgtin.specs.EpcFaults.{RefusesEpc, header_in, partition_in, company_in, item_in, digits_in, IsSgtinAnswer}
use Rattle.epc_sgtin.specs.declared.encoding.EpcFault.{EpcFault}
use Rattle.epc_sgtin.specs.declared.encoding.EpcFault.TheVariants.{Length, Header, Partition, Company, Item}
use Rattle.epc_sgtin.proofs.BitFields.{three_words}
use Rattle.epc_sgtin.proofs.PartitionRows.{fits_row}
use Rattle.epc_sgtin.proofs.EpcReading.{filter_in, serial_in, read_fields}
use Rattle.epc_sgtin.proofs.EpcWords.{item_bits_of, both_of, fields_of, AreHalved, three_words_half, six_words, right_words, wrong_header, wrong_partition, wrong_company, wrong_item}
use Rattle.epc_sgtin.proofs.EpcEncoding.{legal_room}

-- what is read in the words of an SGTIN
pub record Reads (sgtin : SgtinValue) (words : List ℕ) : Type 0 where
  pub six : length words ≡ 6
  pub header : header_in (bits_of_words words) ≡ header
  pub filter : filter_in (bits_of_words words) ≡ sgtin.filter
  pub partition : partition_in (bits_of_words words) ≡ 12 - sgtin.digits
  pub company : company_in (bits_of_words words) ≡ sgtin.company
  pub item : item_in (bits_of_words words) ≡ sgtin.item
  pub serial : serial_in (bits_of_words words) ≡ sgtin.serial
  pub digits : digits_in (bits_of_words words) ≡ sgtin.digits

pub reads : (sgtin : SgtinValue) (words : List ℕ) → IsSgtin sgtin words → Reads sgtin words
reads sgtin words is =
    let bits = bits_of_words words in
    let read = read_fields bits (fields_of sgtin) (legal_room sgtin is.legal) is.bits in
    let fits = fits_row (12 - sgtin.digits) (omega (arith, is.legal.digits_range)) in
    let long = ap length is.bits in
    record {
      six = omega (arith, length-bits_of_words words, simp (length-append, length-field_of) at long, fits.bits);
      header = read.0;
      filter = read.1;
      partition = read.2;
      company = read.3;
      item = read.4;
      serial = read.5;
      digits = ap (λ n. (partition_row n).company_digits) read.2 ∙ fits.company_digits ∙ omega (arith, is.legal.digits_range);
    }

pub one_words : (sgtin : SgtinValue) (one other : List ℕ) → IsSgtin sgtin one → IsSgtin sgtin other → one ≡ other
one_words sgtin one other left right = bits_of_words-same one other left.sixteens right.sixteens (left.bits ∙ sym right.bits)

pub same_parts : (one other : SgtinValue) → one.filter ≡ other.filter → one.digits ≡ other.digits → one.company ≡ other.company → one.item ≡ other.item → one.serial ≡ other.serial → one ≡ other
same_parts one other e0 e1 e2 e3 e4 =
    let step0 = ap (λ (n : ℕ). record one { filter = n }) e0 in
    let step1 = ap (λ (n : ℕ). record one { filter = other.filter; digits = n }) e1 in
    let step2 = ap (λ (n : ℕ). record one { filter = other.filter; digits = other.digits; company = n }) e2 in
    let step3 = ap (λ (n : ℕ). record other { item = n; serial = one.serial }) e3 in
    let step4 = ap (λ (n : ℕ). record other { serial = n }) e4 in
    step0 ∙ step1 ∙ step2 ∙ step3 ∙ step4

pub one_sgtin : (one other : SgtinValue) (words : List ℕ) → IsSgtin one words → IsSgtin other words → one ≡ other
one_sgtin one other words left right =
    let l = reads one words left in
    let r = reads other words right in
    same_parts one other (sym l.filter ∙ r.filter) (sym l.digits ∙ r.digits) (sym l.company ∙ r.company) (sym l.item ∙ r.item) (sym l.serial ∙ r.serial)

pub apart : (sgtin : SgtinValue) (words : List ℕ) (fault : EpcFault) → IsSgtin sgtin words → RefusesEpc fault words → ⊥
apart sgtin words Length is refused = refused (reads sgtin words is).six
apart sgtin words Header is refused = refused.1 (reads sgtin words is).header
apart sgtin words Partition is refused = omega (arith, refused.1, (reads sgtin words is).partition)
apart sgtin words Company is refused =
    let read = reads sgtin words is in
    refused.1 (rw (read.company, read.digits) is.legal.company_range)
apart sgtin words Item is refused =
    let read = reads sgtin words is in
    refused.2 (rw (read.item, read.digits) is.legal.item_range)

pub one_fault : (one other : EpcFault) (words : List ℕ) → RefusesEpc one words → RefusesEpc other words → one ≡ other
one_fault Length Length words l r = refl
one_fault Header Header words l r = refl
one_fault Partition Partition words l r = refl
one_fault Company Company words l r = refl
one_fault Item Item words l r = refl
one_fault one other words l r = absurd (search rules)

-- words with these halves have an answer
abbrev HasAnswer : List ℕ → Type 0
HasAnswer words = ((sgtin : SgtinValue) × IsSgtin sgtin words) ⊎ ((fault : EpcFault) × RefusesEpc fault words)

item_answer : (words : List ℕ) (front back partition : ℕ) → AreHalved words front back → front / 2 ^ 40 ≡ header → front / 2 ^ 34 % 2 ^ 3 ≡ partition → partition < 7
    → both_of front back / 2 ^ item_bits_of partition < 10 ^ (12 - partition) → HasAnswer words
item_answer words front back partition are e at row small =
    let both = both_of front back in
    let company = both / 2 ^ item_bits_of partition in
    let item = both % 2 ^ item_bits_of partition in
    let digits : 12 - (12 - partition) ≡ partition = omega arith in
    elim (cases_lt item (10 ^ (13 - (12 - partition)))) [
      | inl less ↦
          let sgtin : SgtinValue = record { filter = front / 2 ^ 37 % 2 ^ 3; digits = 12 - partition; company = company; item = item; serial = back % 2 ^ 38 } in
          let legal : IsLegalSgtin sgtin = record {
            filter_range = omega arith;
            digits_range = (omega arith, omega arith);
            company_range = small;
            item_range = less;
            serial_range = omega arith;
          } in
          inl (sgtin, right_words words front back sgtin are legal (record { header = e; filter = refl; partition = at ∙ sym digits; has_row = omega arith; company = rw digits; item = rw digits; serial = refl }))
      | inr more ↦ inr (Item, wrong_item words front back partition (record { halved = are; header_is = e; partition_is = at; has_row = row }) small more)
    ]

halved_answer : (words : List ℕ) (front back : ℕ) → AreHalved words front back → HasAnswer words
halved_answer words front back are =
    let partition = front / 2 ^ 34 % 2 ^ 3 in
    elim (cases_eq (front / 2 ^ 40) header) [
      | inr other ↦ inr (Header, wrong_header words front back are other)
      | inl e ↦ elim (cases_eq partition 7) [
        | inl seven ↦ inr (Partition, wrong_partition words front back are e seven)
        | inr row ↦
            let row' : partition < 7 = omega arith in
            elim (cases_lt (both_of front back / 2 ^ item_bits_of partition) (10 ^ (12 - partition))) [
              | inl less ↦ item_answer words front back partition are e refl row' less
              | inr more ↦ inr (Company, wrong_company words front back partition (record { halved = are; header_is = e; partition_is = refl; has_row = row' }) more)
            ]
      ]
    ]

pub some_answer : (words : List ℕ) → All (λ word. word < 2 ^ 16) words → ((sgtin : SgtinValue) × IsSgtin sgtin words) ⊎ ((fault : EpcFault) × RefusesEpc fault words)
some_answer (a ∷ b ∷ c ∷ d ∷ e ∷ f ∷ []) all =
    let P : ℕ → Type 0 = λ word. word < 2 ^ 16 in
    let t1 = All-tail P a (b ∷ c ∷ d ∷ e ∷ f ∷ []) all in
    let t2 = All-tail P b (c ∷ d ∷ e ∷ f ∷ []) t1 in
    let t3 = All-tail P c (d ∷ e ∷ f ∷ []) t2 in
    let t4 = All-tail P d (e ∷ f ∷ []) t3 in
    let t5 = All-tail P e (f ∷ []) t4 in
    let pa : a < 2 ^ 16 = All-head P a (b ∷ c ∷ d ∷ e ∷ f ∷ []) all in
    let pb : b < 2 ^ 16 = All-head P b (c ∷ d ∷ e ∷ f ∷ []) t1 in
    let pc : c < 2 ^ 16 = All-head P c (d ∷ e ∷ f ∷ []) t2 in
    let pd : d < 2 ^ 16 = All-head P d (e ∷ f ∷ []) t3 in
    let pe : e < 2 ^ 16 = All-head P e (f ∷ []) t4 in
    let pf : f < 2 ^ 16 = All-head P f [] t5 in
    let front : ℕ = a * 2 ^ 32 + b * 2 ^ 16 + c in
    let back : ℕ = d * 2 ^ 32 + e * 2 ^ 16 + f in
    let first = three_words (a * 2 ^ 32 + b * 2 ^ 16 + c) a b c (omega arith) (omega arith) (omega arith) in
    let second = three_words (d * 2 ^ 32 + e * 2 ^ 16 + f) d e f (omega arith) (omega arith) (omega arith) in
    halved_answer (a ∷ b ∷ c ∷ d ∷ e ∷ f ∷ []) front back
    (six_words (a ∷ b ∷ c ∷ []) (d ∷ e ∷ f ∷ []) front back (three_words_half a b c front pa pb pc (sym first)) (three_words_half d e f back pd pe pf (sym second)) (omega arith) (omega arith))
some_answer words all = inr (Length, λ six. omega arith)

pub one_answer : (words : List ℕ) (one other : Result SgtinValue EpcFault) → IsSgtinAnswer one words → IsSgtinAnswer other words → one ≡ other
one_answer words (Ok one) (Ok other) l r = ap (λ (sgtin : SgtinValue). Ok sgtin) (one_sgtin one other words l r)
one_answer words (Ok one) (Err fault) l r = absurd (apart one words fault l r)
one_answer words (Err fault) (Ok other) l r = absurd (apart other words fault r l)
one_answer words (Err one) (Err other) l r = ap (λ (fault : EpcFault). Err fault) (one_fault one other words l r)
