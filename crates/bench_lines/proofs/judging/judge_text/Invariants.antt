use Rattle.std.proofs.Common.{◌≤◌, length}
use Rattle.bench_lines.proofs.Standing.{StandsAt}
use Rattle.bench_lines.proofs.judging.judge_text.Given as goal

-- the judge has heard what is read
abbrev pub invariant-loop-steps : goal.invariant-loop-steps
invariant-loop-steps g l = record { at : StandsAt l.text l.rest l.judge l.count; few : l.count ≤ 70000 }

abbrev pub decreases-loop-steps : goal.decreases-loop-steps
decreases-loop-steps g l = length l.rest
