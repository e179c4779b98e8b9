use Rattle.std.proofs.Common.{rules, ◌≡◌, ◌++◌, length, ap, arith, length-append}
use Rattle.pie_line.specs.IntervalList.{IntervalList}
use Rattle.pie_line.specs.Pie.{symbols_with}
use Rattle.pie_line.proofs.Bounds.{frame-bounded}
use Rattle.pie_line.proofs.Writing.{written-frame}
use Rattle.pie_line.proofs.SymbolLanes.{length-symbols_with}
use Rattle.pie_line.proofs.sender.send_frame.Goals as goal

pub returns-clause-wave : goal.returns-clause-wave
returns-clause-wave g c = search rules

pub returns-clause-frame : goal.returns-clause-frame
returns-clause-frame g c =
    written-frame c.args.link.now c.args.lead c.args.bits.now.items c.send_symbols.new.frame.items c.send_header.ensures.legal (returns-clause-wave g c)

pub returns-clause-each : goal.returns-clause-each
returns-clause-each g c = frame-bounded _ _ _ (returns-clause-frame g c)

pub returns-clause-length : goal.returns-clause-length
returns-clause-length g c =
    let header = c.send_header.new.frame.items in
    let bits = c.as_slice.result.now in
    let symbols = symbols_with c.highs-zero.result.0 c.highs-zero.result.1 c.pw.result bits in
    let written : c.send_symbols.new.frame.items ≡ header ++ symbols = ap (λ (list : IntervalList). list.items) c.send_symbols.ensures.frame in
    omega (
      arith,
      ap length written,
      length-append header symbols,
      length-symbols_with c.highs-zero.result.0 c.highs-zero.result.1 c.pw.result bits,
      c.send_header.ensures.written,
      ap length c.as_slice.ensures.value,
    )
