use Rattle.std.proofs.Common.{◌≡◌, ◌==◌, ◌+◌, ◌≤◌, ◌++◌, length, map}
use Rattle.bit_strings.proofs.bits.Bits.put_matches_reserved.Given as goal

-- what stands there and what is still to be told are what stood there and what is told of all bytes
abbrev pub invariant-loop-part : goal.invariant-loop-part
invariant-loop-part l =
    (l.self.items ++ map (λ byte. byte == l.one) l.rest ≡ l.initial.self.items ++ map (λ byte. byte == l.one) l.bytes)
    × (l.self.capacity ≡ l.initial.self.capacity)
    × (length l.self.items + length l.rest ≤ l.self.capacity)
    × (length l.bits ≡ 64)

abbrev pub decreases-loop-part : goal.decreases-loop-part
decreases-loop-part l = length l.rest
