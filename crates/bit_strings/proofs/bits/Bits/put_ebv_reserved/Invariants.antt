use Rattle.std.proofs.Common.{◌≡◌, ◌+◌, ◌*◌, ◌≤◌, ◌++◌, length}
use Rattle.bit_strings.specs.Ebv.{ebv_of}
use Rattle.bit_strings.proofs.EbvWriting.{last_blocks}
use Rattle.bit_strings.proofs.bits.Bits.put_ebv_reserved.Given as goal

-- what stands there and the blocks still to come are what stood there and the whole vector
abbrev pub invariant-loop-left : goal.invariant-loop-left
invariant-loop-left l =
    (l.self.items ++ last_blocks l.value l.left ≡ l.initial.self.items ++ ebv_of l.value)
    × (length l.self.items + 8 * l.left ≤ l.self.capacity)
    × (l.self.capacity ≡ l.initial.self.capacity)
    × (l.left ≤ 4)

abbrev pub decreases-loop-left : goal.decreases-loop-left
decreases-loop-left l = l.left
