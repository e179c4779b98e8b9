use Rattle.std.proofs.Common.{◌≡◌, ◌++◌, take}
use Rattle.line_code.proofs.decoder.put_bits.Given as goal

abbrev pub invariant-loop-bit : goal.invariant-loop-bit
invariant-loop-bit l = record {
  items : l.out.items ≡ l.initial.out.items ++ take l.bit-index l.bits;
  same : l.out.capacity ≡ l.initial.out.capacity;
}
