use Rattle.std.proofs.Common.{◌+◌, ◌≤◌, length}
use Rattle.checked_lines.specs.Answered.{AsksTo}
use Rattle.encode_lines.specs.EncodeLines.{encode_rules}
use Rattle.encode_lines.proofs.checking.check_lines.Given as goal

-- the lines before what is left ask for something
abbrev pub invariant-loop-line : goal.invariant-loop-line
invariant-loop-line l = record {
  so_far : AsksTo encode_rules l.input l.rest l.number;
  room : l.number + length l.rest ≤ length l.input + 1;
}

abbrev pub decreases-loop-line : goal.decreases-loop-line
decreases-loop-line l = length l.rest
