use Rattle.air_world.proofs.Names.{◌<◌, List, length, refl, ap, subst, sym, ◌∙◌, arith, IsPlayable, past_behind, Step, drop_all}
use Rattle.air_world.proofs.Passing.{cut-past, ends-cut}
use Rattle.air_world.proofs.Slots.{stands-same}
use Rattle.air_world.proofs.Steps.{step-legal, same-count, steps-go-on, step-leads}
use Rattle.air_world.proofs.run.Run.play_steps.Goals as goal

pub loop-step-init : goal.loop-step-init
loop-step-init g c = λ begun past stands. record { past = past; stands = stands; are = record { rest = refl; few = omega arith; rounds = omega arith } }

pub play_step-requires-clause-between : goal.play_step-requires-clause-between
play_step-requires-clause-between g c =
    let r = c.requires.between in
    let u = c.loop-step.invariant r.begun r.past r.stands in
    let inside : c.loop-step.step-index < length c.args.steps.now = omega arith in
    record { begun = r.begun; past = u.past; stands = u.stands; room = omega (arith, r.room, u.are.few, inside); rounds = omega (arith, r.rounds, u.are.rounds, inside) }

pub play_step-requires-clause-step : goal.play_step-requires-clause-step
play_step-requires-clause-step g c =
    let r = c.requires.between in
    let u = c.loop-step.invariant r.begun r.past r.stands in
    subst (λ n. IsPlayable n c.step-item.result) (sym (same-count r.stands.at u.stands.at))
    (step-legal (length c.args.air.now.tags) c.args.steps.now c.loop-step.step-index c.step-item.result (omega arith) c.step-item.is c.requires.steps)

pub returns-in_err-play_step : goal.returns-in_err-play_step
returns-in_err-play_step g c = λ begun past stands.
    let u = c.loop-step.invariant begun past stands in
    let inside : c.loop-step.step-index < length c.args.steps.now = omega arith in
    ends-cut c.from_residual.result _ _ _ c.from_residual.ensures.1
    (cut-past begun (step-leads _ c.loop-step.step-index c.step-item.result u.past u.are (record { inside = inside; is = c.step-item.is })) (c.in_err-play_step.ensures begun u.past u.stands))

pub loop-step-preserved : goal.loop-step-preserved
loop-step-preserved g c = λ begun past stands.
    let u = c.loop-step.invariant begun past stands in
    let inside : c.loop-step.step-index < length c.args.steps.now = omega arith in
    let legal = step-legal (length c.args.air.now.tags) c.args.steps.now c.loop-step.step-index c.step-item.result inside c.step-item.is c.requires.steps in
    record {
      past = _;
      stands = c.in_ok-play_step.ensures begun u.past u.stands;
      are = steps-go-on c.round_laws.ensures.limit _ (length c.args.air.now.tags) c.loop-step.step-index c.step-item.result u.past u.are (record { inside = inside; is = c.step-item.is }) legal;
    }

pub returns : goal.returns
returns g c = λ begun past stands.
    let u = c.loop-step.invariant begun past stands in
    let done = drop_all c.loop-step.step-index c.args.steps.now (omega arith) in
    stands-same (sym u.are.rest ∙ ap (λ (steps : List Step). past_behind begun.start steps u.past) done) u.stands
