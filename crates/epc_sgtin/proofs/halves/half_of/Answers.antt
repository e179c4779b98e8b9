-- The words are the three parts of the number.
use Rattle.std.proofs.Common.{arith}
use Rattle.epc_sgtin.proofs.BitFields.{three_words}
use Rattle.epc_sgtin.proofs.halves.half_of.Goals as goal

pub returns-clause-bits : goal.returns-clause-bits
returns-clause-bits c = three_words _ c.args.first c.args.second c.args.third (omega arith) (omega arith) (omega arith)
