use Rattle.std.proofs.Common.{◌≡◌, List, Bool, take, ◌++◌}
use Rattle.bit_strings.specs.NumbersInBits.{value_of}
use Rattle.gen2_crc.specs.Crc.{crc5_of}
use Rattle.gen2_crc.proofs.register5.Crc5.push_all.Given as goal

abbrev pub invariant-loop-bit : goal.invariant-loop-bit
invariant-loop-bit l = (front : List Bool) → l.fn.self ≡ value_of (crc5_of front) → l.self ≡ value_of (crc5_of (front ++ take l.bit-index l.bits))
