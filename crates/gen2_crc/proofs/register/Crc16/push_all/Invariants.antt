use Rattle.std.proofs.Common.{List, Bool, take, ◌++◌, ◌*◌}
use Rattle.gen2_crc.specs.Crc.{RegisterStandsFor}
use Rattle.gen2_crc.proofs.register.Crc16.push_all.Given as goal

abbrev pub invariant-loop-at : goal.invariant-loop-at
invariant-loop-at l = (front : List Bool) → RegisterStandsFor l.fn.self front → RegisterStandsFor l.self (front ++ take (16 * l.at) l.bits)
