use Rattle.std.proofs.Common.{◌≡◌, take, true}
use Rattle.pie_text.proofs.kept_texts.KeptText.is.Given as goal

-- where all intervals so far are the same, the lists begin with the same
abbrev pub invariant-loop-at : goal.invariant-loop-at
invariant-loop-at g l = l.same ≡ true → take l.at l.self.intervals ≡ take l.at l.intervals
