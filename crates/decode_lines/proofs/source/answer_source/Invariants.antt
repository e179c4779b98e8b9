use Rattle.std.proofs.Common.{◌≡◌, ◌^◌, ◌-◌, ◌+◌, ◌<◌, ◌≤◌, ℕ, List, length, vec_len}
use Rattle.std.specs.String.{string_bytes}
use Rattle.air_io.specs.Flow.{TakesBytes}
use Rattle.decode_lines.specs.Answered.{AnsweredSoFar}
use Rattle.decode_lines.proofs.source.answer_source.Given as goal

-- the bytes so far were read, and there are no more than the limit
abbrev pub invariant-reads : goal.invariant-reads
invariant-reads g l = record {
  buffer : vec_len l.buffer ≡ 65536;
  most : l.most + 1 < 2 ^ 32;
  within : l.read ≤ l.most;
  number : l.answering.number ≤ l.read + 1;
  bytes : List ℕ;
  size : length bytes ≡ l.read;
  taken : TakesBytes (g.I.Source.left l.initial.source) (g.I.Source.left l.source) bytes;
  stands : AnsweredSoFar l.answering.fault bytes l.answering.part.items (string_bytes l.answering.text) l.answering.number;
  count : g.I.Source.faults l.source ≡ g.I.Source.faults l.initial.source;
}

abbrev pub decreases-reads : goal.decreases-reads
decreases-reads g l = l.most + 1 - l.read
