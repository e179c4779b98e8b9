use Rattle.gen2_crc.proofs.Registers.{crc5_of-none}
use Rattle.gen2_crc.proofs.register5.Crc5.new.Goals as goal

pub returns : goal.returns
returns c = crc5_of-none
