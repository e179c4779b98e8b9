use Rattle.gen2_crc.proofs.Registers.{stands_value}
use Rattle.gen2_crc.proofs.register.Crc16.value.Goals as goal

pub returns : goal.returns
returns c = rw (← c.self.view_is) (λ bits stands. stands_value c.self.inside.register bits stands)
