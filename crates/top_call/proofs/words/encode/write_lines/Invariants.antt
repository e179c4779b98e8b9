use Rattle.std.proofs.Common.{◌≡◌, List, ℕ, length}
use Rattle.top_call.specs.UnwrittenBytes.{WritesWaiting}
use Rattle.top_call.proofs.EncodedLines.{EncodesTo}
use Rattle.top_call.proofs.words.encode.write_lines.Given as goal

-- the lines so far have become a text, of which a front was written and the rest waits
abbrev pub invariant-loop-line : goal.invariant-loop-line
invariant-loop-line g l = record {
  text : List ℕ;
  so_far : EncodesTo l.input l.rest text;
  sends : WritesWaiting text l.page (g.O.Sink.written l.initial.output) (g.O.Sink.written l.output);
  steady : g.O.Sink.faults l.output ≡ g.O.Sink.faults l.initial.output;
}

abbrev pub decreases-loop-line : goal.decreases-loop-line
decreases-loop-line g l = length l.rest
