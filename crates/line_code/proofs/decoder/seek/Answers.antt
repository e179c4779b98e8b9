-- The levels of the lead, one by one.
use Rattle.std.proofs.Common.{◌+◌, take, arith, sym, ◌∙◌}
use Rattle.line_code.proofs.Steps.{one_more}
use Rattle.bit_strings.specs.laws.Family.{bad-in_front}
use Rattle.line_code.specs.Stream.{Streams}
use Rattle.line_code.proofs.decoder.seek.Goals as goal

pub returns-in-Inside-clause-found : goal.returns-in-Inside-clause-found
returns-in-Inside-clause-found g c =
    let levels = c.args.levels.now in
    let n = c.loop-at.at in
    let lead = (c.in-Inside.ensures c.args.trext (take n levels) c.loop-at.invariant).0 in
    let within = c.loop-at-test.true in
    (omega arith, sym (one_more levels n within) ∙ lead)

pub returns-in-Refused-clause-refused : goal.returns-in-Refused-clause-refused
returns-in-Refused-clause-refused g c =
    let levels = c.args.levels.now in
    let n = c.loop-at.at in
    let bad = (c.in-Refused.ensures c.args.trext (take n levels) c.loop-at.invariant).1 in
    bad-in_front (Streams g.C.LineCode.table c.args.trext) levels (n + 1) c.in-Refused.place (rw (← one_more levels n c.loop-at-test.true) bad)

pub loop-at-preserved : goal.loop-at-preserved
loop-at-preserved g c =
    let levels = c.args.levels.now in
    let n = c.loop-at.at in
    rw (← one_more levels n c.loop-at-test.true) (c.in-Seeking.ensures c.args.trext (take n levels) c.loop-at.invariant)
