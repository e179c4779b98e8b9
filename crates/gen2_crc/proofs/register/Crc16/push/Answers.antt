use Rattle.gen2_crc.proofs.Registers.{stands_more}
use Rattle.gen2_crc.proofs.register.Crc16.push.Goals as goal

pub returns : goal.returns
returns c = rw (← c.self.view_is) (λ bits stands.
    stands_more c.self.inside.register c.shifted16-self-inside.result bits c.args.bit c.shifted16-self-inside.type_inv stands c.shifted16-self-inside.ensures)
