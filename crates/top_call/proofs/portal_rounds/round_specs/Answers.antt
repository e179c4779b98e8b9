use Rattle.top_call.proofs.PortalNames.{◌≡◌, ◌++◌, List, [], ◌∷◌, refl, sym, ap, ◌∙◌, append-nil, take, arith, OpList, SpecValue, specs_of, Step}
use Rattle.scenario.specs.declared.values.Step.TheVariants as steps
use Rattle.top_call.proofs.PortalStepPlaces.{IsStepAt, specs-more}
use Rattle.top_call.proofs.portal_rounds.round_specs.Goals as goal

-- a step that is no round has no parameters
no-spec : (step : Step) → ((spec : SpecValue) (operations : OpList) → step ≡ steps.Round spec operations → ⊥) → specs_of (step ∷ []) ≡ []
no-spec (steps.Round spec operations) other = absurd (other spec operations refl)
no-spec step other = refl

pub loop-step-preserved-in_default : goal.loop-step-preserved-in_default
loop-step-preserved-in_default c =
    let l = c.loop-step in
    let step = c.step-item.result in
    l.invariant ∙ sym (specs-more c.args.steps.now l.step-index step (record { inside = omega arith; is = c.step-item.is })
    ∙ ap (λ (specs : List SpecValue). specs_of (take l.step-index c.args.steps.now) ++ specs) (no-spec step c.in_default.not-Round) ∙ append-nil (specs_of (take l.step-index c.args.steps.now)))

pub loop-step-preserved : goal.loop-step-preserved
loop-step-preserved c =
    let l = c.loop-step in
    let round = c.in-Round in
    let step : Step = steps.Round round.spec round.field-1 in
    let at : IsStepAt c.args.steps.now l.step-index step = record { inside = omega arith; is = (let is = c.step-item.is in let same = round.is in rw same at is) } in
    c.in_ok-push.ensures.items ∙ ap (λ (specs : List SpecValue). specs ++ round.spec ∷ []) l.invariant ∙ sym (specs-more c.args.steps.now l.step-index step at)
