use Rattle.gen2_crc.proofs.Registers.{differs5, same5, differs5-small}
use Rattle.gen2_crc.proofs.register5.shifted5.Goals as goal

pub returns-then-register-bit-clause-small : goal.returns-then-register-bit-clause-small
returns-then-register-bit-clause-small c = differs5-small c.args.register

pub returns-then-register-bit-clause-step : goal.returns-then-register-bit-clause-step
returns-then-register-bit-clause-step c = differs5 c.args.register c.args.bit c.requires c.if-register-bit.true

pub returns-else-register-bit-clause-step : goal.returns-else-register-bit-clause-step
returns-else-register-bit-clause-step c = same5 c.args.register c.args.bit c.requires c.if-register-bit.false
