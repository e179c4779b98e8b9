use Rattle.pie_line.proofs.SymbolLanes.{high_lane, low_lane, symbols-eight}
use Rattle.pie_line.proofs.encoder.pairs_of.Goals as goal

pub returns : goal.returns
returns c =
    let high = high_lane c.args.bits.now c.args.zero c.args.one c.requires.order c.ranges.one.fits in
    let low = low_lane c.args.low c.ranges.low.fits in
    rw (
      high 0 c.from.result c.from.ensures,
      low c.from-2.result,
      high 1 c.from-3.result c.from-3.ensures,
      low c.from-4.result,
      high 2 c.from-5.result c.from-5.ensures,
      low c.from-6.result,
      high 3 c.from-7.result c.from-7.ensures,
      low c.from-8.result,
      high 4 c.from-9.result c.from-9.ensures,
      low c.from-10.result,
      high 5 c.from-11.result c.from-11.ensures,
      low c.from-12.result,
      high 6 c.from-13.result c.from-13.ensures,
      low c.from-14.result,
      high 7 c.from-15.result c.from-15.ensures,
      low c.from-16.result,
    ) (symbols-eight c.args.zero c.args.one c.args.low c.args.bits.now c.requires.eight)
