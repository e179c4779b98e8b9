use Rattle.gen2_crc.proofs.Registers.{crc5_more}
use Rattle.gen2_crc.proofs.register5.Crc5.push.Goals as goal

pub returns : goal.returns
returns c = rw (← c.self.view_is) (λ bits same.
    crc5_more c.self.inside.register c.shifted5-self-inside.result bits c.args.bit c.shifted5-self-inside.ensures.small same c.shifted5-self-inside.ensures.step)
