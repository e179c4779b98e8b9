use Rattle.std.proofs.Common.{◌≡◌, ◌^◌, ◌-◌, ◌+◌, ◌<◌, ◌≤◌, vec_len}
use Rattle.air_io.specs.Flow.{TakesBytes}
use Rattle.air_io.proofs.transfer.read_to_end.Given as goal

-- the bytes so far were read, and there are no more than the limit
abbrev pub invariant-reads : goal.invariant-reads
invariant-reads g l = record {
  buffer : vec_len l.buffer ≡ 65536;
  most : l.most < 2 ^ 32;
  within : vec_len l.bytes ≤ l.most;
  read : TakesBytes (g.I.Source.left l.initial.src) (g.I.Source.left l.src) l.bytes.items;
  count : g.I.Source.faults l.src ≡ g.I.Source.faults l.initial.src;
}

abbrev pub decreases-reads : goal.decreases-reads
decreases-reads g l = l.most + 1 - vec_len l.bytes
