use Rattle.std.proofs.Common.{◌∙◌}
use Rattle.air_events.proofs.Cursors.{other-entry}
use Rattle.air_events.proofs.cursor.EntryCursor.next_entry.Goals as goal

pub returns-then-number-exchange-clause-entry : goal.returns-then-number-exchange-clause-entry
returns-then-number-exchange-clause-entry c = rw (← c.self.view_is) (λ entries played is next.
    c.self.invariant ∙ other-entry c.in-Some.first.now c.in-Some.behind.now entries played _ (rw c.in-Some.ensures.cases.0 at is) c.if-number-exchange.true next)
