use Rattle.std.proofs.Common.{take}
use Rattle.line_code.specs.States.{Seeks}
use Rattle.line_code.proofs.decoder.seek.Given as goal

abbrev pub invariant-loop-at : goal.invariant-loop-at
invariant-loop-at g l = Seeks g.C.LineCode.table l.trext l.seeking (take l.at l.levels)
