use Rattle.std.proofs.Common.{◌≡◌, ◌+◌, ◌-◌, ◌*◌, ◌≤◌, ◌++◌, length, drop}
use Rattle.pie_line.specs.Pie.{symbols_with}
use Rattle.pie_line.proofs.encoder.put_symbols.Given as goal

-- what is written and the symbols of the rest are the whole
abbrev pub invariant-loop-rest : goal.invariant-loop-rest
invariant-loop-rest l = record {
  wave : l.out.items ++ symbols_with l.zero l.one l.low l.rest ≡ l.fn.out.items ++ symbols_with l.fn.zero l.fn.one l.fn.low l.bits;
  room : length l.out.items + 2 * length l.rest ≤ l.out.capacity;
  capacity : l.out.capacity ≡ l.fn.out.capacity;
}

abbrev pub decreases-loop-rest : goal.decreases-loop-rest
decreases-loop-rest l = length l.rest

abbrev pub invariant-loop-bit : goal.invariant-loop-bit
invariant-loop-bit l = record {
  wave : l.out.items ++ symbols_with l.zero l.one l.low (drop l.bit-index l.bit-items) ≡ l.fn.out.items ++ symbols_with l.fn.zero l.fn.one l.fn.low l.bits;
  room : length l.out.items + 2 * (length l.bit-items - l.bit-index) ≤ l.out.capacity;
  capacity : l.out.capacity ≡ l.fn.out.capacity;
}
