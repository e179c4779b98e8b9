use Rattle.air_world.proofs.Names.{ℕ, List, [], ◌∷◌, length, sym, ◌∙◌, ap, subst, IsBetweenSteps, StandsAt, begun_with, BlfLine, Grows, past_behind, start_of, Step, blf_of}
use Rattle.air_world.proofs.Beginning.{between-first, scenario-playable}
use Rattle.air_world.proofs.Passing.{cut-past, ends-checked, ends-cut}
use Rattle.air_world.proofs.Slots.{stands-same}
use Rattle.air_world.proofs.playing.tell_steps.Given.{Over}
use Rattle.air_world.proofs.playing.tell_steps.Goals.{After-tell}
use Rattle.air_world.proofs.playing.tell_steps.Goals as goal

-- the first line is told
begins : (g : Over) (c : After-tell g) → StandsAt g.R.Listener.hears (begun_with c.args.scenario.now c.args.report.now) [] c.args.air.now c.args.run.now c.tell.new.self
begins g c = record {
  at = c.requires.at;
  heard = subst (λ (fraction : ℕ × ℕ). g.R.Listener.hears c.args.report.now (BlfLine fraction.0 fraction.1 ∷ []) c.tell.new.self)
      (c.blf-numerator.ensures.value ∙ ap blf_of (c.link.ensures ∙ c.requires.at.link)) (c.tell.ensures c.args.report.now [] (g.met.R.Listener.nothing c.args.report.now));
}

pub play_steps-requires-clause-between : goal.play_steps-requires-clause-between
play_steps-requires-clause-between g c =
    subst (λ (steps : List Step). IsBetweenSteps g.R.Listener.hears (length steps) c.args.air.now c.args.run.now c.tell.new.self) (sym c.as_slice.ensures.value)
    (between-first c.args.scenario.now c.requires.is (begins g (goal.at.play_steps-requires-clause-between g c).After-tell))

pub play_steps-requires-clause-steps : goal.play_steps-requires-clause-steps
play_steps-requires-clause-steps g c = scenario-playable c.args.scenario.now c.args.air.now _ c.requires.is c.requires.fresh c.as_slice.ensures.value

pub returns-in_err-play_steps-clause-ends : goal.returns-in_err-play_steps-clause-ends
returns-in_err-play_steps-clause-ends g c =
    let start = start_of c.args.scenario.now in
    let grows : Grows (past_behind start c.as_slice.result.now []) (past_behind start c.args.scenario.now.steps []) =
    record { own = []; is = sym (ap (λ (steps : List Step). past_behind start steps []) c.as_slice.ensures.value) } in
    ends-cut c.from_residual.result _ _ _ c.from_residual.ensures.1
    (cut-past (begun_with c.args.scenario.now c.args.report.now) grows
    (c.in_err-play_steps.ensures _ [] (begins g (goal.at.returns-in_err-play_steps-clause-ends g c).After-tell)))

pub returns-clause-ends : goal.returns-clause-ends
returns-clause-ends g c =
    ends-checked g.R.Listener.failed c.check.result
    (stands-same (sym (ap (λ (steps : List Step). past_behind (start_of c.args.scenario.now) steps []) c.as_slice.ensures.value))
    (c.in_ok-play_steps.ensures _ [] (begins g (goal.at.returns-clause-ends g c).After-tell)))
    c.check.ensures.cause
