-- What stands in the fields of 96 bits.
use Rattle.std.proofs.Common.{◌≡◌, ℕ, ◌+◌, ◌^◌, ◌<◌, Bool, List, [], ◌++◌, refl, sym, ◌∙◌, ap, subst, arith, append_assoc, append-nil, length-append}
use Rattle.bit_strings.specs.NumbersInBits.{field_of, part_of, value_of}
use Rattle.bit_strings.specs.laws.NumbersInBits.{length-field_of}
use Rattle.epc_sgtin.specs.Partitions.{partition_row}
use Rattle.epc_sgtin.specs.EpcFaults.{header_in, partition_in, company_in, item_in}
use Rattle.epc_sgtin.proofs.BitFields.{field-at}

-- the numbers in the fields of an EPC
pub record Fields : Type 0 where
  pub header : ℕ
  pub filter : ℕ
  pub partition : ℕ
  pub company : ℕ
  pub item : ℕ
  pub serial : ℕ

-- the bits of an EPC with these fields, the partition saying how many bits the company and the item have
abbrev pub fields_bits : Fields → List Bool
fields_bits f =
    let shares = partition_row f.partition in
    field_of f.header 8 ++ (field_of f.filter 3 ++ (field_of f.partition 3
    ++ (field_of f.company shares.company_bits ++ (field_of f.item shares.item_bits ++ field_of f.serial 38))))

-- each number has room in its field
pub record HasRoom (f : Fields) : Type 0 where
  pub header : f.header < 2 ^ 8
  pub filter : f.filter < 2 ^ 3
  pub partition : f.partition < 2 ^ 3
  pub company : f.company < 2 ^ (partition_row f.partition).company_bits
  pub item : f.item < 2 ^ (partition_row f.partition).item_bits
  pub serial : f.serial < 2 ^ 38

-- where the filter and the serial stand
abbrev pub filter_in : List Bool → ℕ
filter_in bits = value_of (part_of bits 8 3)

abbrev pub serial_in : List Bool → ℕ
serial_in bits =
    let shares = partition_row (partition_in bits) in value_of (part_of bits (14 + shares.company_bits + shares.item_bits) 38)

-- what stands in front
pub front_fields : (bits more : List Bool) (header filter partition : ℕ) → header < 2 ^ 8 → filter < 2 ^ 3 → partition < 2 ^ 3
    → bits ≡ field_of header 8 ++ (field_of filter 3 ++ (field_of partition 3 ++ more))
    → (header_in bits ≡ header) × (filter_in bits ≡ filter) × (partition_in bits ≡ partition)
front_fields bits more header filter partition p q r split =
    let h = field_of header 8 in
    let f = field_of filter 3 in
    let second : bits ≡ (h ++ f) ++ (field_of partition 3 ++ more) = split ∙ simp append_assoc in (
      field-at bits [] (f ++ (field_of partition 3 ++ more)) header 8 0 split refl p,
      field-at bits h (field_of partition 3 ++ more) filter 3 8 split (length-field_of header 8) q,
      field-at bits (h ++ f) more partition 3 11 second (simp (length-append, length-field_of)) r,
    )

-- the fields of an EPC can be read
pub read_fields : (bits : List Bool) (f : Fields) → HasRoom f → bits ≡ fields_bits f
    → (header_in bits ≡ f.header) × (filter_in bits ≡ f.filter) × (partition_in bits ≡ f.partition) × (company_in bits ≡ f.company)
    × (item_in bits ≡ f.item) × (serial_in bits ≡ f.serial)
read_fields bits f room split =
    let shares = partition_row f.partition in
    let h = field_of f.header 8 in
    let g = field_of f.filter 3 in
    let p = field_of f.partition 3 in
    let c = field_of f.company shares.company_bits in
    let i = field_of f.item shares.item_bits in
    let s = field_of f.serial 38 in
    let front = front_fields bits (c ++ (i ++ s)) f.header f.filter f.partition room.header room.filter room.partition split in
    let third : bits ≡ (h ++ (g ++ p)) ++ (c ++ (i ++ s)) = split ∙ simp append_assoc in
    let fourth : bits ≡ (h ++ (g ++ (p ++ c))) ++ (i ++ s) = split ∙ simp append_assoc in
    let fifth : bits ≡ (h ++ (g ++ (p ++ (c ++ i)))) ++ (s ++ []) = split ∙ simp (append_assoc, append-nil) in
    let row : partition_row (partition_in bits) ≡ shares = ap partition_row front.2 in
    let company : value_of (part_of bits 14 shares.company_bits) ≡ f.company =
    field-at bits (h ++ (g ++ p)) (i ++ s) f.company shares.company_bits 14 third (simp (length-append, length-field_of)) room.company in
    let item : value_of (part_of bits (14 + shares.company_bits) shares.item_bits) ≡ f.item =
    field-at bits (h ++ (g ++ (p ++ c))) s f.item shares.item_bits (14 + shares.company_bits) fourth (simp (length-append, length-field_of) (omega arith)) room.item in
    let serial : value_of (part_of bits (14 + shares.company_bits + shares.item_bits) 38) ≡ f.serial =
    field-at bits (h ++ (g ++ (p ++ (c ++ i)))) [] f.serial 38 (14 + shares.company_bits + shares.item_bits) fifth (simp (length-append, length-field_of) (omega arith)) room.serial in (
      front.0,
      front.1,
      front.2,
      subst (λ n. value_of (part_of bits 14 (partition_row n).company_bits) ≡ f.company) (sym front.2) company,
      subst (λ n. value_of (part_of bits (14 + (partition_row n).company_bits) (partition_row n).item_bits) ≡ f.item) (sym front.2) item,
      subst (λ n. value_of (part_of bits (14 + (partition_row n).company_bits + (partition_row n).item_bits) 38) ≡ f.serial) (sym front.2) serial,
    )
