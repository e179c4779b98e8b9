-- The decoder is given one symbol more.
use Rattle.std.proofs.Common.{◌≡◌, ◌∙◌, ◌+◌, ◌++◌, ◌∷◌, [], ℕ, List, get_or, take, ap, sym, subst, arith, append_assoc, length-append}
use Rattle.std.proofs.lemmas.List.{take_more}
use Rattle.pie_line.specs.Edges.{EdgesStandFor, EdgesHaveReadTo}
use Rattle.pie_line.proofs.decoder.take_symbols.Goals as goal

pub loop-at-preserved : goal.loop-at-preserved
loop-at-preserved c =
    let so_far = c.loop-at.invariant.given in
    let at = c.loop-at.at in
    let intervals = c.args.intervals.now in
    let before = c.loop-at.out.items in
    let high = get_or intervals at 0 in
    let low = get_or intervals (at + 1) 0 in
    let two : at + 2 ≡ at + 1 + 1 = omega arith in
    let second : take (at + 2) intervals ≡ take (at + 1) intervals ++ low ∷ [] = ap (λ (n : ℕ). take n intervals) two ∙ take_more intervals (at + 1) 0 c.loop-at-test.true in
    let first : take (at + 1) intervals ≡ take at intervals ++ high ∷ [] = take_more intervals at 0 (omega (arith, c.loop-at-test.true)) in
    let more : take (at + 2) intervals ≡ take at intervals ++ high ∷ low ∷ [] =
    second ∙ ap (λ (list : List ℕ). list ++ low ∷ []) first ∙ append_assoc (take at intervals) (high ∷ []) (low ∷ []) in
    let given : EdgesHaveReadTo c.push_symbol.new.self (before ++ c.in-Some.bit ∷ []) intervals (at + 2) = record {
      within = omega (arith, c.loop-at-test.true);
      stands = subst (λ (came : List ℕ). EdgesStandFor c.push_symbol.new.self (before ++ c.in-Some.bit ∷ []) came) (sym more)
          (c.in-Some.ensures.bit before (take at intervals) so_far.stands);
      counted = omega (arith, c.push_symbol.ensures.count, so_far.counted);
      read = omega (arith, so_far.read, length-append before (c.in-Some.bit ∷ []));
    } in
    record {
      given = rw c.push_reserved.ensures given;
      further = omega (arith, c.loop-at.invariant.further);
      capacity = rw c.push_reserved.ensures c.loop-at.invariant.capacity;
    }
