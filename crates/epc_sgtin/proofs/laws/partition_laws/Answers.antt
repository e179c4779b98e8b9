use Rattle.epc_sgtin.proofs.PartitionRows.{fits_row}
use Rattle.epc_sgtin.proofs.laws.partition_laws.Goals as goal

pub returns : goal.returns
returns c = record {
  bits = λ partition row. (fits_row partition row).bits;
  company_digits = λ partition row. (fits_row partition row).company_digits;
  item_digits = λ partition row. (fits_row partition row).item_digits;
  company_room = λ partition row. (fits_row partition row).company_room;
  item_room = λ partition row. (fits_row partition row).item_room;
}
