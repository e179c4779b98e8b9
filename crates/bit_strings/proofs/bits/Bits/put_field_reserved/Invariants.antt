use Rattle.std.proofs.Common.{◌≡◌, ◌+◌, ◌≤◌, ◌++◌, length}
use Rattle.bit_strings.specs.NumbersInBits.{field_of}
use Rattle.bit_strings.proofs.bits.Bits.put_field_reserved.Given as goal

-- what stands there and the places still to come are what stood there and the whole field
abbrev pub invariant-loop-places : goal.invariant-loop-places
invariant-loop-places l =
    (l.self.items ++ field_of l.value l.places ≡ l.initial.self.items ++ field_of l.value l.width)
    × (length l.self.items + l.places ≤ l.self.capacity)
    × (l.self.capacity ≡ l.initial.self.capacity)
    × (l.places ≤ l.width)

abbrev pub decreases-loop-places : goal.decreases-loop-places
decreases-loop-places l = l.places
