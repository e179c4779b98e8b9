use Rattle.air_audit.proofs.Names.{◌+◌, ◌≤◌, length, IsEarly, AuditorStandsAt, begun, Start}
use Rattle.air_audit.proofs.Walks.{Walked}
use Rattle.air_audit.proofs.traces.walk.Given as goal

-- the lines so far were gone over
abbrev pub invariant-loop-line : goal.invariant-loop-line
invariant-loop-line g l = record {
  walked : (start : Start) → AuditorStandsAt start begun l.fn.auditor → Walked start l.trace l.rest l.number l.auditor;
  early : IsEarly l.number l.auditor;
  count : l.number + length l.rest ≤ length l.trace + 1;
}

abbrev pub decreases-loop-line : goal.decreases-loop-line
decreases-loop-line g l = length l.rest
