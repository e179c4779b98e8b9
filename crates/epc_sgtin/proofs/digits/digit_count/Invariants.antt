use Rattle.std.proofs.Common.{◌≡◌, ◌⊎◌, ◌-◌, ◌≤◌, ◌^◌}
use Rattle.epc_sgtin.proofs.digits.digit_count.Given as goal

-- the limit is the least number with one more digit, and the value has at least so many digits
abbrev pub invariant-loop-limit : goal.invariant-loop-limit
invariant-loop-limit l =
    (l.limit ≡ 10 ^ l.count) × (1 ≤ l.count) × (l.count ≤ 12) × ((l.count ≡ 1) ⊎ (10 ^ (l.count - 1) ≤ l.value))

abbrev pub decreases-loop-limit : goal.decreases-loop-limit
decreases-loop-limit l = 12 - l.count
