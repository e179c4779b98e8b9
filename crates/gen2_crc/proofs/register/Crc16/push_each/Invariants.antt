use Rattle.std.proofs.Common.{List, Bool, take, ◌++◌}
use Rattle.gen2_crc.specs.Crc.{RegisterStandsFor}
use Rattle.gen2_crc.proofs.register.Crc16.push_each.Given as goal

abbrev pub invariant-loop-bit : goal.invariant-loop-bit
invariant-loop-bit l = (front : List Bool) → RegisterStandsFor l.fn.self front → RegisterStandsFor l.self (front ++ take l.bit-index l.bits)
