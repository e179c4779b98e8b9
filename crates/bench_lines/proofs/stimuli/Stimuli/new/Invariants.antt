use Rattle.std.proofs.Common.{length}
use Rattle.bench_lines.proofs.Checking.{HasSaid}
use Rattle.bench_lines.proofs.stimuli.Stimuli.new.Given as goal

abbrev pub invariant-loop-line : goal.invariant-loop-line
invariant-loop-line l = HasSaid l.text l.rest l.count

abbrev pub decreases-loop-line : goal.decreases-loop-line
decreases-loop-line l = length l.rest
