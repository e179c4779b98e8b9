use Rattle.std.proofs.Common.{◌<◌, length, arith, subst, sym}
use Rattle.scenario.specs.AirLinesSoFar.{AirLinesValue}
use Rattle.scenario.proofs.Counts.{entries_count}
use Rattle.scenario.proofs.draft.air.AirLines.say.Goals as goal

pub invariant_of-self : goal.invariant_of-self
invariant_of-self c =
    let before = c.self.inside in
    let events = subst (λ (air : AirLinesValue). length air.latest.events < air.count) (sym c.self.view_is) c.requires.events in
    let missed = subst (λ (air : AirLinesValue). length air.latest.missed < air.count) (sym c.self.view_is) c.requires.missed in
    record {
      lines = c.self.invariant.lines;
      entries = omega (arith, c.self.invariant.entries, entries_count before.closed.items before.exchange before.latest c.say.new.self);
      events = omega (arith, events, c.say.ensures.events);
      missed = omega (arith, missed, c.say.ensures.missed);
    }
