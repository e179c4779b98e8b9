use Rattle.std.proofs.Common.{length}
use Rattle.scenario.specs.ReaderAnswers.{standing_of}
use Rattle.scenario.proofs.Reader.{IsRead}
use Rattle.scenario.proofs.reading.read_lines.Given as goal

abbrev pub invariant-loop-line : goal.invariant-loop-line
invariant-loop-line l = IsRead l.text l.rest (standing_of l.progress) l.number

abbrev pub decreases-loop-line : goal.decreases-loop-line
decreases-loop-line l = length l.rest
