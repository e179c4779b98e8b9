use Rattle.std.proofs.Common.{◌≡◌, ◌++◌, drop}
use Rattle.std.specs.String.{string_bytes}
use Rattle.wave_dump.specs.Waves.{moments_text, stream_moments}
use Rattle.wave_dump.specs.Borrowed.{signals_of}
use Rattle.wave_dump.proofs.waves.push_stream.Given as goal

abbrev pub invariant-loop-level : goal.invariant-loop-level
invariant-loop-level l = record {
  text : string_bytes l.text ++ moments_text (signals_of l.last) (stream_moments l.link (signals_of l.sent) (signals_of l.heard) l.begin l.number (drop l.level-index l.level-items))
      ≡ string_bytes l.initial.text ++ moments_text (signals_of l.sent) (stream_moments l.link (signals_of l.sent) (signals_of l.heard) l.begin 0 l.level-items);
  number : l.number ≡ l.level-index;
}
