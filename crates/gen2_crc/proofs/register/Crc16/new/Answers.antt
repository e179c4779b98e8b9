use Rattle.gen2_crc.proofs.Registers.{stands_none}
use Rattle.gen2_crc.proofs.register.Crc16.new.Goals as goal

pub returns : goal.returns
returns c = stands_none
