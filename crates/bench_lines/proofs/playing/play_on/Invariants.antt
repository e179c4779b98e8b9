use Rattle.std.proofs.Common.{◌≡◌, List, length}
use Rattle.std.specs.String.{string_bytes}
use Rattle.tag_machine.specs.Hearing.{tag_value_of}
use Rattle.bench_lines.specs.Stimuli.{Stimulus}
use Rattle.bench_lines.specs.ProbeText.{AreStimuli}
use Rattle.bench_lines.proofs.PlayedParts.{PlayedTo, beginning, place}
use Rattle.bench_lines.proofs.playing.play_on.Given as goal

-- what is said leads so far
abbrev pub invariant-loop-stimulus : goal.invariant-loop-stimulus
invariant-loop-stimulus g l = record {
  played : (said : List Stimulus) → AreStimuli l.fn.stimuli said
      → PlayedTo (beginning (tag_value_of l.fn.first) said (g.O.Sink.written l.initial.out) (g.O.Sink.faults l.initial.out))
      (place l.number (tag_value_of l.tag) l.left (string_bytes l.rooms.text) (g.O.Sink.written l.out));
  steady : g.O.Sink.faults l.out ≡ g.O.Sink.faults l.initial.out;
}

abbrev pub decreases-loop-stimulus : goal.decreases-loop-stimulus
decreases-loop-stimulus g l = length l.left
