use Rattle.std.proofs.Common.{◌<◌, arith}
use Rattle.lock_rules.proofs.PairNumbers.{number_of-locks_of}
use Rattle.lock_rules.proofs.locks.Locks.from_bits.Goals as goal

pub returns-clause-number : goal.returns-clause-number
returns-clause-number c =
    let ten : c.args.pairs < 1024 = omega arith in
    cc (number_of-locks_of c.args.pairs ten)
