use Rattle.std.proofs.Common.{◌≡◌, ◌+◌, ◌≤◌, length, drop}
use Rattle.tag_population.specs.Hearing.{tags_after_events}
use Rattle.tag_population.proofs.population.Population.befall_all.Given as goal

abbrev pub invariant-loop-event : goal.invariant-loop-event
invariant-loop-event g l =
    (tags_after_events 0 (drop l.event-index l.events) l.self ≡ tags_after_events 0 l.events l.fn.self) × (length l.self ≡ length l.fn.self) × (l.steps ≤ l.fn.steps + l.event-index)
