use Rattle.lock_rules.proofs.PairNumbers.{locks_of-number_of}
use Rattle.lock_rules.proofs.locks.Locks.bits.Goals as goal

pub returns-clause-pairs : goal.returns-clause-pairs
returns-clause-pairs c = cc (locks_of-number_of c.args.self.now)
