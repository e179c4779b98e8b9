-- The decoder takes a symbol more.
use Rattle.std.proofs.Common.{rules}
use Rattle.pie_line.proofs.TakenSymbol.{stands_symbol}
use Rattle.pie_line.proofs.edges.Edges.push_symbol.Goals as goal

pub returns-clause-bit : goal.returns-clause-bit
returns-clause-bit c = rw (← c.self.view_is) (λ bits intervals stands.
    rw (c.in_ok-bit.ensures.bit, c.rtcal.ensures)
    (stands_symbol _ c.in-Ok-High.kind c.args.high c.args.low bits intervals (search rules) (rw c.rtcal.ensures at c.in_ok-bit.ensures.symbol) stands))
