-- The decoder is given one interval more.
use Rattle.std.proofs.Common.{◌≡◌, ◌+◌, ◌≤◌, ◌++◌, ◌∷◌, [], ℕ, List, length, take, sym, subst, arith, length-append}
use Rattle.std.proofs.lemmas.List.{take_all, take_more}
use Rattle.bit_strings.specs.BitString.{BitString}
use Rattle.pie_line.specs.Edges.{EdgesStandFor, IsEdgesAnswer}
use Rattle.pie_line.specs.declared.edges.Edge.TheVariants.{Refused}
use Rattle.pie_line.proofs.Decoding.{walk_refused, walk_ended}
use Rattle.pie_line.proofs.decoder.decode_intervals.Goals as goal
use Rattle.pie_line.proofs.decoder.decode_intervals.Goals.{in-More, in-Bit}

pub take_symbols-at-requires-clause-given : goal.take_symbols-at-requires-clause-given
take_symbols-at-requires-clause-given c =
    let so_far = c.loop-at.invariant.given in
    let at = c.loop-at.at in
    let intervals = c.args.intervals.now in
    let before = c.loop-at.out.items in
    let more = take_more intervals at 0 c.loop-at-test.true in
    let Given : BitString → Type 0 = λ out. EdgesStandFor c.push.new.self out.items (take (at + 1) intervals) × (length out.items ≤ at + 1) in
    let given : Given c.match-push.out = elim c.match-push.branch [
      | in-More w ↦
          rw w.out-is (
            subst (λ (came : List ℕ). EdgesStandFor c.push.new.self before came) (sym more) (w.in-More.ensures.answer before (take at intervals) so_far.stands).1,
            omega (arith, so_far.read),
          )
      | in-Bit w ↦
          rw (w.out-is, w.push_reserved.ensures) (
            subst (λ (came : List ℕ). EdgesStandFor c.push.new.self (before ++ w.in-Bit.bit ∷ []) came) (sym more) (w.in-Bit.ensures.answer before (take at intervals) so_far.stands).1,
            omega (arith, so_far.read, length-append before (w.in-Bit.bit ∷ [])),
          )
    ] in
    record {
      within = omega (arith, c.loop-at-test.true);
      stands = given.0;
      counted = omega (arith, c.push.ensures.count, so_far.counted);
      read = given.1;
    }

pub returns-in-Refused-clause-refused : goal.returns-in-Refused-clause-refused
returns-in-Refused-clause-refused c =
    let at = c.loop-at.at in
    let intervals = c.args.intervals.now in
    let before = c.loop-at.out.items in
    let more = take_more intervals at 0 c.loop-at-test.true in
    walk_refused c.push.new.self c.in-Refused.refusal before intervals (at + 1)
    (subst (λ (came : List ℕ). IsEdgesAnswer (Refused c.in-Refused.refusal) c.push.new.self before came) (sym more)
    (c.in-Refused.ensures.answer before (take at intervals) c.loop-at.invariant.given.stands))

pub returns-clause-refused : goal.returns-clause-refused
returns-clause-refused c =
    let at = c.loop-at.at in
    let intervals = c.args.intervals.now in
    let before = c.loop-at.out.items in
    let whole : take at intervals ≡ intervals = take_all at intervals (omega (arith, c.loop-at-test.false)) in
    walk_ended c.finish.result c.loop-at.out intervals
    (c.finish.ensures.answer before intervals (subst (λ (came : List ℕ). EdgesStandFor c.loop-at.edges before came) whole c.loop-at.invariant.given.stands))
