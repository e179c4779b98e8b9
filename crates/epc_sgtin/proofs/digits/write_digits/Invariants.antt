use Rattle.std.proofs.Common.{◌≡◌, ◌≤◌, ◌++◌, length, drop}
use Rattle.epc_sgtin.specs.Uri.{padded}
use Rattle.epc_sgtin.proofs.digits.write_digits.Given as goal

-- the digits that are still to be written and those that stand are the digits of the value
abbrev pub invariant-loop-place : goal.invariant-loop-place
invariant-loop-place l =
    (padded l.rest l.place ++ drop l.place l.digits ≡ padded l.value (length l.digits)) × (l.place ≤ length l.digits)

abbrev pub decreases-loop-place : goal.decreases-loop-place
decreases-loop-place l = l.place
