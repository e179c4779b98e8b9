use Rattle.gen2_crc.proofs.Registers.{differs16, same16}
use Rattle.gen2_crc.proofs.register.shifted16.Goals as goal

pub returns-then-register-bit : goal.returns-then-register-bit
returns-then-register-bit c = differs16 c.args.register c.args.bit c.ranges.register.fits c.if-register-bit.true

pub returns-else-register-bit : goal.returns-else-register-bit
returns-else-register-bit c = same16 c.args.register c.args.bit c.ranges.register.fits c.if-register-bit.false
