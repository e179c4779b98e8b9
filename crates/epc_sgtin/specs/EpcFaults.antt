-- Why words are no SGTIN-96: five things are asked in order, and the first that fails is the answer. The order is profile.
use Rattle.std.specs.Prelude.{◌≡◌, ◌≢◌, ℕ, ◌+◌, Bool, List, length, Result, Ok, Err}
use Rattle.bit_strings.specs.NumbersInBits.{value_of, part_of}
use Rattle.bit_strings.specs.Words.{bits_of_words}
use Rattle.epc_sgtin.specs.SgtinValue.{SgtinValue, IsCompany, IsItem}
use Rattle.epc_sgtin.specs.Partitions.{partition_row}
use Rattle.epc_sgtin.specs.Epc.{header, IsSgtin}
use Rattle.epc_sgtin.specs.declared.encoding.EpcFault.{EpcFault}
use Rattle.epc_sgtin.specs.declared.encoding.EpcFault.TheVariants.{Length, Header, Partition, Company, Item}

-- the numbers that stand where 96 bits have their fields
abbrev pub header_in : List Bool → ℕ
header_in bits = value_of (part_of bits 0 8)

abbrev pub partition_in : List Bool → ℕ
partition_in bits = value_of (part_of bits 11 3)

abbrev pub company_in : List Bool → ℕ
company_in bits = value_of (part_of bits 14 (partition_row (partition_in bits)).company_bits)

abbrev pub item_in : List Bool → ℕ
item_in bits = let shares = partition_row (partition_in bits) in value_of (part_of bits (14 + shares.company_bits) shares.item_bits)

-- how many digits the company has by the partition
abbrev pub digits_in : List Bool → ℕ
digits_in bits = (partition_row (partition_in bits)).company_digits

-- there are six words, which begin with the header
abbrev pub HasSgtinHeader : List ℕ → Type 0
HasSgtinHeader words = (length words ≡ 6) × (header_in (bits_of_words words) ≡ header)

-- behind it stands a partition that the table has
abbrev pub HasPartition : List ℕ → Type 0
HasPartition words = HasSgtinHeader words × (partition_in (bits_of_words words) ≢ 7)

-- the words are no SGTIN-96 for this reason, the first of the five that applies
abbrev pub RefusesEpc : EpcFault → List ℕ → Type 0
RefusesEpc Length words = length words ≢ 6
RefusesEpc Header words = (length words ≡ 6) × (header_in (bits_of_words words) ≢ header)
RefusesEpc Partition words = HasSgtinHeader words × (partition_in (bits_of_words words) ≡ 7)
RefusesEpc Company words =
    let bits = bits_of_words words in HasPartition words × (¬ IsCompany (digits_in bits) (company_in bits))
RefusesEpc Item words =
    let bits = bits_of_words words in
    HasPartition words × IsCompany (digits_in bits) (company_in bits) × (¬ IsItem (digits_in bits) (item_in bits))

-- the answer to words: the SGTIN whose words they are, or why they are those of none
abbrev pub IsSgtinAnswer : Result SgtinValue EpcFault → List ℕ → Type 0
IsSgtinAnswer (Ok sgtin) words = IsSgtin sgtin words
IsSgtinAnswer (Err fault) words = RefusesEpc fault words
