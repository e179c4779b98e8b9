-- What holds of each row of the partition table.
use Rattle.std.proofs.Common.{◌≡◌, ℕ, suc, ◌+◌, ◌-◌, ◌^◌, ◌<◌, ◌≤◌, refl, arith, lit≤}
use Rattle.epc_sgtin.specs.Partitions.{Partition, partition_row}

-- the shares of a row: bits and digits add up, and so many digits need no more than so many bits
pub record FitsRow (partition : ℕ) (shares : Partition) : Type 0 where
  pub bits : shares.company_bits + shares.item_bits ≡ 44
  pub company_digits : shares.company_digits ≡ 12 - partition
  pub item_digits : shares.item_digits ≡ 13 - shares.company_digits
  pub company_room : 10 ^ shares.company_digits ≤ 2 ^ shares.company_bits
  pub item_room : 10 ^ shares.item_digits ≤ 2 ^ shares.item_bits

pub fits_row : (partition : ℕ) → partition < 7 → FitsRow partition (partition_row partition)
fits_row (suc (suc (suc (suc (suc (suc (suc more))))))) small = absurd (omega arith)
fits_row partition small = record { bits = refl; company_digits = refl; item_digits = refl; company_room = lit≤ tt; item_room = lit≤ tt }
