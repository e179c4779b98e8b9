use Rattle.std.proofs.Common.{◌≡◌, ◌≤◌, ◌<◌, ℕ, false}
use Rattle.tag_population.specs.Floor.{is_reached}
use Rattle.tag_population.specs.Participation.{participation_at}
use Rattle.tag_population.proofs.floor.Floor.next_reached.Given as goal

abbrev pub invariant-loop-at : goal.invariant-loop-at
invariant-loop-at l = (number : ℕ) → l.from ≤ number → number < l.at → is_reached l.reach (participation_at l.self.parts number) ≡ false
