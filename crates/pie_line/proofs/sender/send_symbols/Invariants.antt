use Rattle.std.proofs.Common.{◌≡◌, ◌+◌, ◌-◌, ◌*◌, ◌≤◌, ◌++◌, length, drop}
use Rattle.pie_line.specs.Pie.{symbols_with}
use Rattle.pie_line.proofs.sender.send_symbols.Given as goal

-- what is sent and the symbols of the rest are the whole
abbrev pub invariant-loop-bit : goal.invariant-loop-bit
invariant-loop-bit g l = record {
  wave : l.frame.items ++ symbols_with l.zero l.one l.low (drop l.bit-index l.bits) ≡ l.fn.frame.items ++ symbols_with l.fn.zero l.fn.one l.fn.low l.bits;
  room : length l.frame.items + 2 * (length l.bits - l.bit-index) ≤ l.frame.capacity;
  capacity : l.frame.capacity ≡ l.fn.frame.capacity;
  took : (first : g.row.T.Denot) → g.T.FrameTaker.took first l.fn.frame.items l.fn.taker → g.T.FrameTaker.took first l.frame.items l.taker;
  count : g.T.FrameTaker.count l.taker ≤ g.T.FrameTaker.count l.fn.taker + 2 * l.bit-index;
}
