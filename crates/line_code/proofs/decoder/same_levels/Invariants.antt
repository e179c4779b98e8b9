use Rattle.std.proofs.Common.{◌≡◌, ◌↔◌, IsTrue, take}
use Rattle.line_code.proofs.decoder.same_levels.Given as goal

-- whether the levels so far are the same
abbrev pub invariant-loop-at : goal.invariant-loop-at
invariant-loop-at l = IsTrue l.same ↔ (take l.at l.levels ≡ take l.at l.others)
