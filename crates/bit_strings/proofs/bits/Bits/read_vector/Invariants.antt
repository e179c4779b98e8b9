use Rattle.std.proofs.Common.{◌≡◌, ◌≤◌, ◌-◌}
use Rattle.bit_strings.specs.NumbersInBits.{part_of}
use Rattle.bit_strings.specs.Ebv.{IsCutEbv}
use Rattle.bit_strings.proofs.bits.Bits.read_vector.Given as goal

-- the bits from the place on are read, and end inside a vector
abbrev pub invariant-loop-at : goal.invariant-loop-at
invariant-loop-at l =
    (l.front ≡ part_of l.self.items l.from (l.at - l.from)) × (l.from ≤ l.at) × IsCutEbv l.front
