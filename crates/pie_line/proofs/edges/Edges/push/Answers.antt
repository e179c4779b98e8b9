use Rattle.std.proofs.Common.{◌∙◌, ℕ, Err, refl, ap, subst}
use Rattle.pie_line.specs.FrameState.{Moves}
use Rattle.pie_line.specs.Refusal.{refusal_at}
use Rattle.pie_line.proofs.Leads.{leads-refused}
use Rattle.pie_line.proofs.DecoderStandsFor.{stands-at, refused-again, answers-bit, answers-more}
use Rattle.pie_line.proofs.OneAnswer.{refused_so}
use Rattle.pie_line.proofs.edges.Edges.push.Goals as goal
use Rattle.pie_line.proofs.edges.Edges.push.Goals.{in-Some-bit, in-None}

pub returns-in-Err-clause-answer : goal.returns-in-Err-clause-answer
returns-in-Err-clause-answer c = rw (← c.self.view_is) (λ bits xs s. refused-again _ c.in-Err.refusal c.args.interval bits xs c.in-Err.is s)

pub returns-in_default-clause-answer : goal.returns-in_default-clause-answer
returns-in_default-clause-answer c = rw (← c.self.view_is) (λ bits xs s.
    let at = stands-at _ c.in-Ok.place bits xs c.in-Ok.is s in
    let named = c.refusal_of-refusal.ensures ∙ ap (λ (count : ℕ). refusal_at count c.args.interval) at.0 in
    (refl, leads-refused c.in-Ok.place bits xs c.args.interval c.refusal_of-refusal.result at.1 c.in_default.ensures.stops named))

pub returns-clause-answer : goal.returns-clause-answer
returns-clause-answer c = rw (← c.self.view_is) (λ bits xs s.
    let at = stands-at _ c.in-Ok.place bits xs c.in-Ok.is s in
    let place = c.in-Ok.place in
    let next = c.in-Some.next in
    let x = c.args.interval in
    let m = c.in-Some.ensures.moves in
    elim c.match-bit.branch [
      | in-Some-bit w ↦
          let m' = subst (Moves place x next) w.in-Some-bit.is m in
          rw w.result-is (answers-bit place next w.in-Some-bit.bit bits xs x c.self.inside.count at m')
      | in-None w ↦
          let m' = subst (Moves place x next) w.in-None.is m in
          rw w.result-is (answers-more place next bits xs x c.self.inside.count at m')
    ])

pub returns-in-Err-clause-only : goal.returns-in-Err-clause-only
returns-in-Err-clause-only c = λ bits xs refusal place s refused. refused_so _ _ bits _ refusal place (returns-in-Err-clause-answer c bits xs s) refused

pub returns-in_default-clause-only : goal.returns-in_default-clause-only
returns-in_default-clause-only c = λ bits xs refusal place s refused.
    refused_so _ (record { standing = Err c.refusal_of-refusal.result; count = c.self.inside.count }) bits _ refusal place (returns-in_default-clause-answer c bits xs s) refused

pub returns-clause-only : goal.returns-clause-only
returns-clause-only c = λ bits xs refusal place s refused. refused_so _ _ bits _ refusal place (returns-clause-answer c bits xs s) refused
