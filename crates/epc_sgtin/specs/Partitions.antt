-- GS1 Tag Data Standard, SGTIN partition table: how the 44 bits behind the partition, and the 13 digits of a number, are
-- shared between the company prefix and the item reference with its indicator.
use Rattle.std.specs.Prelude.{ℕ, List, [], ◌∷◌, slice_index_or}

-- a row of the table
pub record Partition : Type 0 where
  pub company_bits : ℕ
  pub company_digits : ℕ
  pub item_bits : ℕ
  pub item_digits : ℕ

-- a row of these numbers of bits and digits
abbrev pub partition_with : ℕ → ℕ → ℕ → ℕ → Partition
partition_with company_bits company_digits item_bits item_digits =
    record { company_bits = company_bits; company_digits = company_digits; item_bits = item_bits; item_digits = item_digits }

-- the rows of the partitions from 0 to 6: bits and digits of the company, bits and digits of the item
abbrev pub partitions : List Partition
partitions =
    partition_with 40 12 4 1
    ∷ partition_with 37 11 7 2
    ∷ partition_with 34 10 10 3
    ∷ partition_with 30 9 14 4
    ∷ partition_with 27 8 17 5
    ∷ partition_with 24 7 20 6
    ∷ partition_with 20 6 24 7
    ∷ []

-- the row of a partition; a number above 6 has none, and gets no bits and no digits
abbrev pub partition_row : ℕ → Partition
partition_row partition = slice_index_or partitions partition (partition_with 0 0 0 0)
