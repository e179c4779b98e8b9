-- GS1 Tag Data Standard, SGTIN-96: the 96 bits of the EPC in words of the EPC bank.
use Rattle.std.specs.Prelude.{◌≡◌, ℕ, ◌-◌, ◌^◌, ◌<◌, Bool, List, ◌++◌, All}
use Rattle.bit_strings.specs.NumbersInBits.{field_of}
use Rattle.bit_strings.specs.Words.{bits_of_words}
use Rattle.epc_sgtin.specs.SgtinValue.{SgtinValue, IsLegalSgtin}
use Rattle.epc_sgtin.specs.Partitions.{partition_row}

-- the header of an SGTIN-96: 00110000
abbrev pub header : ℕ
header = 48

-- the partition by the number of the company's digits
abbrev pub partition_of : ℕ → ℕ
partition_of digits = 12 - digits

-- the bits of an SGTIN-96, field by field: header, filter, partition, company, item, serial
abbrev pub epc_bits : SgtinValue → List Bool
epc_bits sgtin =
    let shares = partition_row (partition_of sgtin.digits) in
    field_of header 8 ++ (field_of sgtin.filter 3 ++ (field_of (partition_of sgtin.digits) 3
    ++ (field_of sgtin.company shares.company_bits ++ (field_of sgtin.item shares.item_bits ++ field_of sgtin.serial 38))))

-- the words are the SGTIN-96 of the value
pub record IsSgtin (sgtin : SgtinValue) (words : List ℕ) : Type 0 where
  pub legal : IsLegalSgtin sgtin
  pub sixteens : All (λ word. word < 2 ^ 16) words
  pub bits : bits_of_words words ≡ epc_bits sgtin
