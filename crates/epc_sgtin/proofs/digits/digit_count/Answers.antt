-- The value is below the limit, and has at least the digits counted.
use Rattle.std.proofs.Common.{arith}
use Rattle.epc_sgtin.proofs.Padded.{decimal_padded}
use Rattle.epc_sgtin.proofs.digits.digit_count.Goals as goal

pub returns-clause-spelled : goal.returns-clause-spelled
returns-clause-spelled c =
    let so_far = c.loop-limit.invariant in
    decimal_padded c.args.value c.loop-limit.count (omega arith) so_far.1 so_far.3 (omega arith)
