use Rattle.std.proofs.Common.{◌+◌, ◌*◌, ◌≤◌, subst, arith}
use Rattle.pie_line.specs.declared.frame_state.FrameState.TheVariants.{FirstLow, Low}
use Rattle.pie_line.specs.FrameState.{IsSoundState, rtcal_of}
use Rattle.pie_line.proofs.Symbols.{symbol-moves, first-moves}
use Rattle.pie_line.proofs.frame_state.FrameState.after.Goals as goal

pub returns-then-sum-rtcal-clause-moves : goal.returns-then-sum-rtcal-clause-moves
returns-then-sum-rtcal-clause-moves c =
    let a = c.in-FirstLow in
    let s : IsSoundState (FirstLow a.tari a.rtcal a.high) = subst IsSoundState a.is c.requires.sound in
    rw (c.bit_of_sum.ensures, a.is)
    (first-moves a.tari a.rtcal a.high c.args.interval s.0 s.1 s.2.lasts (omega arith) c.if-sum-rtcal.true)

pub returns-else-rtcal-sum-clause-moves : goal.returns-else-rtcal-sum-clause-moves
returns-else-rtcal-sum-clause-moves c =
    let a = c.in-Low in
    let s : IsSoundState (Low a.kind a.high) = subst IsSoundState a.is c.requires.sound in
    let most : a.high + c.args.interval ≤ 4 * rtcal_of a.kind = omega arith in
    rw (c.bit_of_sum-in-Low.ensures, c.rtcal-rtcal.ensures, a.is)
    (symbol-moves a.kind a.high c.args.interval s.0 s.1.lasts (omega arith) most)
