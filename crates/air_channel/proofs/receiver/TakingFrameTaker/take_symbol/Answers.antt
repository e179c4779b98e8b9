use Rattle.std.proofs.Common.{◌++◌, ◌∷◌, [], ℕ, List, append_assoc, subst, sym}
use Rattle.pie_line.specs.Edges.{EdgesValue}
use Rattle.air_channel.specs.Receiving.{HasTaken}
use Rattle.air_channel.proofs.receiver.TakingFrameTaker.take_symbol.Goals as goal

pub returns-clause-took : goal.returns-clause-took
returns-clause-took c = λ first intervals taken.
    let there = subst (λ (edges : EdgesValue). HasTaken edges c.args.self.now.framer.now intervals) (sym c.in_default.ensures.same) taken.2 in
    let behind_high = c.take.ensures.took first intervals (taken.0, taken.1, there) in
    let behind_low = c.take-2.ensures.took first (intervals ++ c.args.high ∷ []) behind_high in (
      behind_low.0,
      behind_low.1,
      subst (λ (l : List ℕ). HasTaken c.take-2.new.self.edges.now c.take-2.new.self.framer.now l) (append_assoc intervals (c.args.high ∷ []) (c.args.low ∷ [])) behind_low.2,
    )
