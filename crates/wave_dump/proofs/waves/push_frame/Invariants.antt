use Rattle.std.proofs.Common.{◌≡◌, ◌++◌, false, drop}
use Rattle.std.specs.String.{string_bytes}
use Rattle.wave_dump.specs.Waves.{frame_end, frame_moments, moments_text}
use Rattle.wave_dump.specs.Borrowed.{signals_of}
use Rattle.wave_dump.proofs.waves.push_frame.Given as goal

abbrev pub invariant-loop-interval : goal.invariant-loop-interval
invariant-loop-interval l = record {
  text : string_bytes l.text ++ moments_text (signals_of l.last) (frame_moments (signals_of l.sent) l.time l.high (drop l.interval-index l.intervals))
      ≡ string_bytes l.initial.text ++ moments_text (signals_of l.old) (frame_moments (signals_of l.sent) l.begin false l.intervals);
  end : frame_end l.time (drop l.interval-index l.intervals) ≡ frame_end l.begin l.intervals;
}
